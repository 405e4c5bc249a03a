-- What a called station gives: with an output of at least the length lent, nothing that it sends is too long.
-- Assumes nothing.
use mathlib.Core.Path.{◌≡◌, sym, ◌∙◌, ap}
use mathlib.Core.Bool.{true}
use mathlib.Core.List.{List}
use Prim.Native.Nat.{ℕ, ◌≤◌}
use native.Mathlib.Omega.{arith}
use lib.ListN.{length}
use Rattle.base.specs.Places.{placed}
use Rattle.mop_registers.specs.Rows.{table_length}
use Rattle.mop_block.specs.Block.{is_address, first, next}
use Rattle.mop_header.specs.Header.{Head, header_length, telegram_of, body_of, rolled_left, sent_back}
use Rattle.mop_reader.specs.Reading.{sound, faulty, reading}
use Rattle.mop_reader.specs.ReadBack.{ReadWell}
use Rattle.mop_header.specs.declared.Function.{Function}
use Rattle.mop_header.specs.declared.Function.TheVariants.{Request, Reply}
use Rattle.mop_reader.specs.declared.Reader.TheVariants.{Station}
use Rattle.mop_header.proofs.Lengths.{length_rolled_left, length_sent_back}
use Rattle.mop_reader.proofs.Sizes.{header_bound}
use Rattle.mop_header.proofs.Writing.{length_telegram}
use Rattle.mop_reader.proofs.ReadBack.{is_written}
use Rattle.mop_step.specs.Body.{Acceptance, accepts, rejects, judged_body, after_writes, reply_body}
use Rattle.mop_step.specs.Step.{Step, relayed, replied, answering, acting}
use Rattle.mop_station.specs.Station.{sent, refuses, leaving, sending_by, taking, handling}
use Rattle.mop_step.proofs.Answers.{length_replied, reply_bound}
use Rattle.mop_step.proofs.Steps.{relay_sent, answer_sent, to_destination, to_relay, reply_to_relay, for_this}
use Rattle.mop_station.proofs.Telegrams.{heard_faulty, heard}
use Rattle.mop_step.proofs.Stations.{is_station_lem}
use Rattle.net_journey.specs.Journey.{call_output}

-- a fault of the header
pub call_fault : (own : ℕ) (t tg out : List ℕ) (k : ℕ) → reading Station tg ≡ faulty k → is_address own ≡ true → length t ≡ table_length →
    handling own t tg out ≡ leaving (refuses k) t out
call_fault own t tg out k e address long = heard_faulty own t tg out (is_station_lem own t address long) k e

-- a telegram without a fault in its header, at the station whose address is its first entry
module _ (own : ℕ) (t tg out : List ℕ) (h : Head) (order : reading Station tg ≡ sound h) (address : is_address own ≡ true) (long : length t ≡ table_length)
    (mine : first h.block ≡ own) (room : call_output ≤ length out) where
  -- the call, by what the step comes to
  taken : {s : Step} → acting h.function (next h.block) h (body_of h tg) t (length out) ≡ s → handling own t tg out ≡ taking s (body_of h tg) out
  taken e =
      let set = is_station_lem own t address long in
      heard own t tg out set h order ∙ ap (λ (s : Step). taking s (body_of h tg) out) (for_this own h (body_of h tg) t (length out) set mine ∙ e)

  well : ReadWell Station tg h
  well = is_written Station tg h order

  -- a header of the same length, with the same body
  relay_room : (g : Head) → header_length g ≡ header_length h → length (telegram_of g (body_of h tg)) ≤ length out
  relay_room g e =
      omega (arith, room, e, length_telegram g (body_of h tg), length_telegram h (body_of h tg), ap length well.whole, well.short)

  reply_room : judged_body (body_of h tg) ≡ accepts → length (telegram_of (replied h) (reply_body (body_of h tg) (after_writes (body_of h tg) t))) ≤ length out
  reply_room e =
      let body = body_of h tg in
      let after = after_writes body t in
      let reply = reply_body body after in
      omega (arith, room, length_telegram (replied h) reply, length_replied h, header_bound Station h well.order, reply_bound body after e)

  pub call_reply : h.function ≡ Reply →
      handling own t tg out ≡ leaving (sent (length (telegram_of (sent_back h) (body_of h tg)))) t (placed (telegram_of (sent_back h) (body_of h tg)) out)
  unfolding relayed sending_by
  call_reply e =
      taken (reply_to_relay h (body_of h tg) t (length out) (next h.block) e
      ∙ relay_sent h (body_of h tg) t (length out) (ap (λ (f : Function). relayed f h) (sym e)) (relay_room (sent_back h) (length_sent_back h)))

  pub call_request : h.function ≡ Request → (next h.block ≡ 0 → ⊥) →
      handling own t tg out ≡ leaving (sent (length (telegram_of (rolled_left h) (body_of h tg)))) t (placed (telegram_of (rolled_left h) (body_of h tg)) out)
  unfolding relayed sending_by
  call_request e n =
      taken (to_relay h (body_of h tg) t (length out) e n
      ∙ relay_sent h (body_of h tg) t (length out) (ap (λ (f : Function). relayed f h) (sym e)) (relay_room (rolled_left h) (length_rolled_left h)))

  -- the destination, by what it says of the body
  answered : h.function ≡ Request → next h.block ≡ 0 → {v : Acceptance} → judged_body (body_of h tg) ≡ v →
      acting h.function (next h.block) h (body_of h tg) t (length out) ≡ answering v h (body_of h tg) t (length out)
  answered e z {v} k = to_destination h (body_of h tg) t (length out) e z ∙ rw k

  pub call_accepted : h.function ≡ Request → next h.block ≡ 0 → judged_body (body_of h tg) ≡ accepts →
      handling own t tg out
      ≡ leaving (sent (length (telegram_of (replied h) (reply_body (body_of h tg) (after_writes (body_of h tg) t))))) (after_writes (body_of h tg) t)
      (placed (telegram_of (replied h) (reply_body (body_of h tg) (after_writes (body_of h tg) t))) out)
  unfolding sending_by
  call_accepted e z k = taken (answered e z k ∙ answer_sent h (body_of h tg) t (length out) (reply_room k))

  pub call_rejected : h.function ≡ Request → next h.block ≡ 0 → (k : ℕ) → judged_body (body_of h tg) ≡ rejects k →
      handling own t tg out ≡ leaving (refuses k) t out
  unfolding answering sending_by
  call_rejected e z k r = taken (answered e z r)
