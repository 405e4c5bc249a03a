-- How large the values of the calls of a station and of the centre are.
-- Assumes nothing.
use mathlib.Core.Path.{◌≡◌, refl, ◌∙◌, ap, subst}
use mathlib.Core.Bool.{not}
use mathlib.Core.List.{List}
use Prim.Native.Nat.{ℕ, ◌≤◌}
use native.Mathlib.Omega.{arith}
use lib.ListN.{length}
use Rattle.base.proofs.Choice.{pick_either}
use Rattle.mop_header.specs.Header.{Head, header_length, body_of}
use Rattle.mop_reader.specs.Reading.{Reading, sound, faulty, max_telegram, reading}
use Rattle.mop_header.specs.declared.Function.{Function}
use Rattle.mop_header.specs.declared.Function.TheVariants.{Request, Reply}
use Rattle.mop_reader.specs.declared.Reader.TheVariants.{Station}
use Rattle.mop_header.proofs.Lengths.{length_rolled_left, length_sent_back}
use Rattle.mop_reader.proofs.Sizes.{header_bound}
use Rattle.mop_reader.proofs.ReadBack.{is_written}
use Rattle.mop_header.proofs.Writing.{length_telegram}
use Rattle.mop_step.specs.Body.{after_writes, reply_body}
use Rattle.mop_step.specs.Step.{Step, is_station, relayed, replied, stepping}
use Rattle.mop_station.specs.Station.{Handled, sent, not_mine, refuses, Handling, sending_by, taking, hearing, handling}
use Rattle.mop_step.proofs.Answers.{length_replied, reply_bound}
use Rattle.mop_step.proofs.Cases.{step_either}
use Rattle.mop_centre.proofs.Requests.{request_bound}
use Rattle.mop_centre.proofs.Replies.{receipt_read}
use Rattle.c_mop.specs.Bounds.{MopBounds}
use Rattle.c_mop.proofs.Replies.{telegram_short, values_long}

-- what a station sends has so many bytes at most
abbrev Sends : ℕ → Handled → Type 0
Sends most (sent n) = n ≤ most
Sends most not_mine = Unit
Sends most (refuses k) = Unit

length_relayed : (f : Function) (h : Head) → header_length (relayed f h) ≡ header_length h
unfolding relayed
length_relayed Request h = length_rolled_left h
length_relayed Reply h = length_sent_back h

module _ (own : ℕ) (t telegram out : List ℕ) where
  -- what is relayed is as long as what was heard, and what is answered is a header and a short body
  step_sends : (h : Head) → reading Station telegram ≡ sound h →
      (let body = body_of h telegram in Sends max_telegram (taking (stepping own h body t (length out)) body out).handled)
  unfolding sending_by
  step_sends h read =
      let body = body_of h telegram in
      let after = after_writes body t in
      let reply = reply_body body after in
      let well = is_written Station telegram h read in
      step_either own h body t (length out) (λ (s : Step). Sends max_telegram (taking s body out).handled) (λ k. tt)
      (λ l. omega (arith, length_telegram (relayed h.function h) body, length_relayed h.function h, length_telegram h body, ap length well.whole, well.short))
      (λ c l. omega (arith, length_telegram (replied h) reply, length_replied h, header_bound Station h well.order, reply_bound body after c.accepted))
      tt

  hear_sends : (r : Reading) → reading Station telegram ≡ r → Sends max_telegram (hearing r own telegram t out).handled
  unfolding hearing
  hear_sends (faulty k) read = tt
  hear_sends (sound h) read = step_sends h read

  station_sends : Sends max_telegram (handling own t telegram out).handled
  unfolding handling
  station_sends =
      pick_either (λ (r : Handling). Sends max_telegram r.handled) (not (is_station own t)) tt (hear_sends (reading Station telegram) refl)

pub mop_bounds : MopBounds
mop_bounds = record {
  station = λ own t telegram out n e. subst (Sends max_telegram) e (station_sends own t telegram out);
  request = request_bound;
  reply = λ telegram a.
      let e = receipt_read telegram ∙ a in omega (arith, values_long telegram refl e, telegram_short telegram refl e);
}
