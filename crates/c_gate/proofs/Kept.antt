-- Numbers there and back: what does nothing leaves them as they were, and a state that is written is taken again.
-- Assumes nothing.
use mathlib.Core.Path.{◌≡◌, refl, sym, ap, ◌∙◌}
use mathlib.Core.Bool.{true, and-eq-true_iff}
use mathlib.Core.List.{List, [], ◌∷◌}
use Prim.Native.Nat.{ℕ, zero, suc}
use native.Mathlib.Omega.{arith}
use borrow.Author.Tests.{leb-true}
use lib.Dec.{eqb, leb}
use lib.ListN.{length}
use Rattle.gate_receive.specs.declared.GateState.{GateState}
use Rattle.gate_receive.specs.declared.GateState.TheVariants.{Rest, AtDestination, AtSource, AtLength, AtData, AtLowCheck, OthersSource, OthersLength, Dropping}
use Rattle.gate_commands.specs.Commands.{commands, operating}
use Rattle.gate_commands.specs.declared.GateRegisters.{GateRegisters}
use Rattle.gate_commands.proofs.Safety.{not_ack_keeps_all}
use Rattle.c_answer.specs.Answer.{refused}
use Rattle.c_gate.specs.Bus.{state_words, state_of, state_at, is_state, received, received_by}
use Rattle.c_gate.specs.Commands.{bit_number, bit_numbers, bits_at, none_above1, is_bits, registers_at, of_verdict, operated}
use Rattle.c_gate.specs.Kept.{StateTaken, ReceiveKept, OperateKept}
use Rattle.c_gate.proofs.States.{same_self, same_equal, state_parts, at_state}
use Rattle.c_gate.proofs.Bits.{of_bits}

-- a state is read as it was written
state_back : (s : GateState) → state_at (state_words s) ≡ s
unfolding state_at state_of
state_back Rest = refl
state_back AtDestination = refl
state_back (AtSource d c) = refl
state_back (AtLength d s c) = refl
state_back (AtData d s n k c) = refl
state_back (AtLowCheck d s n c h) = refl
state_back OthersSource = refl
state_back OthersLength = refl
state_back (Dropping left) = refl

-- so its numbers are those of a state, where they fit
pub state_taken : StateTaken
unfolding is_state
state_taken s f = rw (f, state_back s) (same_self (state_words s))

pub receive_kept : ReceiveKept
receive_kept own w st event out h is e =
    at_state own w st event out h is
    ∙ ap received_by e
    ∙ ap (λ (l : List ℕ). received (refused 1) l st out) (sym (same_equal w (state_words (state_at w)) (state_parts w is).1))

-- levels or edges are written as they were read
bit_back : (n : ℕ) → leb n 1 ≡ true → bit_number (eqb n 1) ≡ n
bit_back zero h = refl
bit_back (suc zero) h = refl
bit_back (suc (suc n)) h = absurd (omega (arith, leb-true (suc (suc n)) 1 h))

bits_back : (l : List ℕ) → none_above1 l ≡ true → bit_numbers (bits_at l) ≡ l
unfolding none_above1 bit_numbers bits_at
bits_back [] h = refl
bits_back (n ∷ l) h =
    let t = (and-eq-true_iff (leb n 1) (none_above1 l)).0 h in rw (bit_back n t.0, bits_back l t.1)

numbers_back : (l : List ℕ) → is_bits l ≡ true → bit_numbers (bits_at l) ≡ l
unfolding is_bits
numbers_back l is = bits_back l ((and-eq-true_iff (eqb (length l) commands) (none_above1 l)).0 is).1

pub operate_kept : OperateKept
operate_kept bs levels edges l e not =
    of_bits bs levels edges l e
    ∙ ap (λ (r : GateRegisters). operated (of_verdict (operating (registers_at levels edges) bs).verdict) (bit_numbers r.levels) (bit_numbers r.edges)) (not_ack_keeps_all (registers_at levels edges) bs not)
    ∙ rw (numbers_back levels l, numbers_back edges e)
