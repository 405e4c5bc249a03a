-- How large the values of the calls of the gate bus are.
-- Assumes nothing.
use mathlib.Core.Path.{◌≡◌, refl, subst}
use mathlib.Core.Bool.{Bool, true, false, not, ◌||◌}
use mathlib.Core.List.{List}
use Prim.Native.Nat.{ℕ, ◌≤◌, ◌<◌}
use native.Mathlib.Omega.{arith}
use borrow.Author.Tests.{ltb-false}
use lib.Dec.{eqb, leb, ltb}
use lib.ListN.{length, get_or}
use Rattle.base.specs.Choice.{pick}
use Rattle.base.specs.Filling.{Given, filled, refused, Filling, denied, fitted}
use Rattle.base.specs.Words.{word}
use Rattle.base.proofs.Choice.{pick_either}
use Rattle.gate_refusal.specs.Numbers.{number_of}
use Rattle.gate_refusal.specs.declared.GateRefusal.{GateRefusal}
use Rattle.gate_refusal.specs.declared.GateRefusal.TheVariants.{Setup, Kind, Length, Position, OutputShort, Check, Address}
use Rattle.gate_telegram.specs.Telegram.{start_byte, reserved, max_data, slave_token, telegram_of, bad_addresses, telegram_writing}
use Rattle.gate_telegram.proofs.Telegrams.{length_telegram}
use Rattle.gate_receive.specs.Receive.{Response, nothing, telegram, token, refuses, Reaction, Storing, Judging, Outcome, to, starting_again, with, rest_of, destination_of, source_of, length_of, data_of, accepted_of, judged_of, others_length_of, dropping_of, byte_of, event_of, overcounts, receive_of}
use Rattle.gate_receive.specs.declared.GateState.{GateState}
use Rattle.gate_receive.specs.declared.GateState.TheVariants.{Rest, AtDestination, AtSource, AtLength, AtData, AtLowCheck, OthersSource, OthersLength, Dropping}
use Rattle.events.specs.declared.Event.{Event}
use Rattle.events.specs.declared.Event.TheVariants.{Byte, Timer}
use Rattle.gate_receive.proofs.Bounds.{low_check_bound}
use Rattle.c_answer.proofs.Refusals.{above_values, below_not_mine}
use Rattle.signed.specs.Signed.{four_bytes}
use Rattle.gate_commands.specs.Commands.{Verdict, answers, Operation, operate_byte, function_of, functioning, commanding, operating, command_of, command_writing}
use Rattle.gate_commands.specs.Commands as commands
use Rattle.gate_commands.specs.declared.GateRegisters.{GateRegisters}
use Rattle.gate_answers.specs.Answers.{answer_bytes, is_answer, answer_writing}
use Rattle.gate_answers.specs.declared.BarrierAnswer.{BarrierAnswer}
use Rattle.gate_answers.specs.declared.BarrierAnswer.TheVariants.{Ack, Nak, Busy, Syn, Count}
use Rattle.gate_answers.specs.declared.BarrierAnswer.TheVariants as barrier
use Rattle.c_gate.specs.Bus.{fits, state_of, state_at}
use Rattle.c_gate.specs.Answers.{kind_of}
use Rattle.c_gate.specs.Bounds.{max_telegram, GateBounds}
use Rattle.c_gate.proofs.States.{fits_parts}

number_bound : (r : GateRefusal) → (1 ≤ number_of r) × (number_of r < 255)
number_bound Setup = (omega arith, omega arith)
number_bound Kind = (omega arith, omega arith)
number_bound Length = (omega arith, omega arith)
number_bound Position = (omega arith, omega arith)
number_bound OutputShort = (omega arith, omega arith)
number_bound Check = (omega arith, omega arith)
number_bound Address = (omega arith, omega arith)

-- what is written has at most so many bytes
abbrev Within : ℕ → Given → Type 0
Within most (filled n) = n ≤ most
Within most (refused k) = Unit

abbrev WithinOut : ℕ → Filling → Type 0
WithinOut most f = Within most f.given

fitted_within : (most : ℕ) (bytes out : List ℕ) → length bytes ≤ most → WithinOut most (fitted bytes out)
unfolding fitted
fitted_within most bytes out h = pick_either (WithinOut most) (ltb (length out) (length bytes)) tt h

module _ (d s : ℕ) (bs out : List ℕ) where
  by_length : (t : Bool) → ltb max_data (length bs) ≡ t → WithinOut max_telegram (pick t (denied 7 out) (fitted (telegram_of d s bs) out))
  by_length true e = tt
  by_length false e = fitted_within max_telegram (telegram_of d s bs) out (omega (arith, length_telegram d s bs, ltb-false max_data (length bs) e))

  telegram_within : WithinOut max_telegram (telegram_writing d s bs out)
  unfolding telegram_writing
  telegram_within = pick_either (WithinOut max_telegram) (bad_addresses d s (length bs)) tt (by_length (ltb max_data (length bs)) refl)

command_within : (c f : ℕ) (out : List ℕ) → WithinOut 3 (command_writing c f out)
unfolding command_writing
command_within c f out = fitted_within 3 (command_of c f) out (omega arith)

answer_size : (a : BarrierAnswer) → length (answer_bytes a) ≤ 5
unfolding answer_bytes four_bytes
answer_size Ack = omega arith
answer_size Nak = omega arith
answer_size Busy = omega arith
answer_size Syn = omega arith
answer_size (Count z) = omega arith
answer_size (barrier.Position z) = omega arith

answer_within : (a : BarrierAnswer) (out : List ℕ) → WithinOut 5 (answer_writing a out)
unfolding answer_writing
answer_within a out = pick_either (WithinOut 5) (is_answer a) (fitted_within 5 (answer_bytes a) out (answer_size a)) tt

-- what a command is answered by
abbrev Answered : Verdict → Type 0
Answered (answers b) = b ≤ 2
Answered (commands.refuses k) = Unit

abbrev AnsweredSo : Operation → Type 0
AnsweredSo o = Answered o.verdict

operating_answered : (r : GateRegisters) (bs : List ℕ) → AnsweredSo (operating r bs)
unfolding operating commanding function_of functioning
operating_answered r bs =
    let c = get_or bs 1 0 in
    let f = get_or bs 2 0 in
    pick_either AnsweredSo (not (eqb (length bs) 3)) tt
    (pick_either AnsweredSo (not (eqb (get_or bs 0 0) operate_byte)) tt
    (pick_either AnsweredSo (ltb c commands.commands)
    (pick_either (λ g. AnsweredSo (functioning r c g)) (eqb f 0x00) (omega arith)
    (pick_either (λ g. AnsweredSo (functioning r c g)) (eqb f 0x01) (omega arith)
    (pick_either (λ g. AnsweredSo (functioning r c g)) (eqb f 0x02) (omega arith) (omega arith))))
    (omega arith)))

kind_bound : (a : BarrierAnswer) → kind_of a ≤ 0x1D
kind_bound Ack = omega arith
kind_bound Nak = omega arith
kind_bound Busy = omega arith
kind_bound Syn = omega arith
kind_bound (Count z) = omega arith
kind_bound (barrier.Position z) = omega arith

-- source and number of data bytes are small
abbrev Small : Response → Type 0
Small nothing = Unit
Small (telegram s n) = (s ≤ 255) × (n ≤ max_data)
Small (token s) = s ≤ 255
Small (refuses k) = Unit

-- the source, in the one phase that tells it
abbrev SmallSource : GateState → Type 0
SmallSource Rest = Unit
SmallSource AtDestination = Unit
SmallSource (AtSource d c) = Unit
SmallSource (AtLength d s c) = Unit
SmallSource (AtData d s n k c) = Unit
SmallSource (AtLowCheck d s n c h) = s ≤ 255
SmallSource OthersSource = Unit
SmallSource OthersLength = Unit
SmallSource (Dropping left) = Unit

state_source : (w : List ℕ) → get_or w 2 0 ≤ 255 → SmallSource (state_at w)
unfolding state_at state_of
state_source w h =
    let p = get_or w 0 0 in
    pick_either SmallSource (eqb p 0) tt
    (pick_either SmallSource (eqb p 1) tt
    (pick_either SmallSource (eqb p 2) tt
    (pick_either SmallSource (eqb p 3) tt
    (pick_either SmallSource (eqb p 4) tt
    (pick_either SmallSource (eqb p 5) h (pick_either SmallSource (eqb p 6) tt (pick_either SmallSource (eqb p 7) tt tt)))))))

abbrev SmallStep : Reaction → Type 0
SmallStep r = Small r.response

abbrev SmallStore : Storing → Type 0
SmallStore o = SmallStep o.reaction

abbrev SmallOut : Judging → Type 0
SmallOut o = SmallStep o.reaction

abbrev SmallOutcome : Outcome → Type 0
SmallOutcome o = SmallStep o.reaction

judged_small : (d s n c h b : ℕ) (st out : List ℕ) → s ≤ 255 → n ≤ max_data → SmallOut (judged_of d s n c h b st out)
unfolding judged_of accepted_of
judged_small d s n c h b st out from most =
    pick_either SmallOut (not (eqb (word h b) c)) tt
    (pick_either SmallOut (eqb s reserved || slave_token d s n) tt
    (pick_either SmallOut (eqb n 0) from (pick_either SmallOut (ltb (length out) n) tt (from, most))))

byte_small : (own : ℕ) (s : GateState) (b : ℕ) (st out : List ℕ) → SmallSource s → overcounts s ≡ false → SmallOutcome (byte_of own s b st out)
unfolding byte_of rest_of destination_of source_of length_of data_of others_length_of dropping_of
byte_small own Rest b st out from e = pick_either SmallStep (eqb b start_byte) tt tt
byte_small own AtDestination b st out from e = pick_either SmallStep (eqb b own) tt tt
byte_small own (AtSource d c) b st out from e = tt
byte_small own (AtLength d s c) b st out from e = pick_either SmallStep (ltb max_data b) tt tt
byte_small own (AtData d s n k c) b st out from e = pick_either SmallStore (ltb k n) tt tt
byte_small own (AtLowCheck d s n c h) b st out from e = judged_small d s n c h b st out from (low_check_bound d s n c h e)
byte_small own OthersSource b st out from e = tt
byte_small own OthersLength b st out from e = tt
byte_small own (Dropping left) b st out from e = pick_either SmallStep (leb left 1) tt tt

event_small : (own : ℕ) (s : GateState) (st : List ℕ) (e : Event) (out : List ℕ) → SmallSource s → overcounts s ≡ false →
    SmallOutcome (event_of own s st e out)
unfolding event_of
event_small own s st (Byte b) out from h = byte_small own s b st out from h
event_small own s st Timer out from h = tt

module _ (own : ℕ) (s : GateState) (st : List ℕ) (e : Event) (out : List ℕ) (from : SmallSource s) where
  by_counts : (t u : Bool) → overcounts s ≡ u →
      SmallOutcome (pick (t || u) (with (to (refuses 1) s) st out) (pick (eqb own reserved) (with (starting_again (refuses 16)) st out) (event_of own s st e out)))
  by_counts true u is = tt
  by_counts false true is = tt
  by_counts false false is = pick_either SmallOutcome (eqb own reserved) tt (event_small own s st e out from is)

  receive_small : SmallOutcome (receive_of own s st e out)
  unfolding receive_of
  receive_small = by_counts (not (eqb (length st) max_data)) (overcounts s) refl

-- at numbers that fit
fitting_small : (own : ℕ) (w st : List ℕ) (e : Event) (out : List ℕ) → fits w ≡ true → SmallOutcome (receive_of own (state_at w) st e out)
fitting_small own w st e out h = receive_small own (state_at w) st e out (state_source w (fits_parts w h).source)

pub gate_bounds : GateBounds
gate_bounds = record {
  from_done = λ r value small. above_values (number_of r) value (number_bound r).0 small;
  from_not_mine = λ r. below_not_mine (number_of r) (number_bound r).1;
  telegram_long = λ d s bs out n e. subst (Within max_telegram) e (telegram_within d s bs out);
  command_long = λ c f out n e. subst (Within 3) e (command_within c f out);
  answer_long = λ a out n e. subst (Within 5) e (answer_within a out);
  received = λ own w st e out from n h is. subst Small is (fitting_small own w st e out h);
  passed_on = λ own w st e out from h is. subst Small is (fitting_small own w st e out h);
  verdict = λ r bs b is. subst Answered is (operating_answered r bs);
  kind = kind_bound;
}
