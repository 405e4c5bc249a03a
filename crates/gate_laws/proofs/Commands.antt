-- Operating commands, from the master that writes one to the barrier that carries it out.
-- Assumes nothing.
use mathlib.Core.Path.{◌≡◌, ap, ◌∙◌}
use mathlib.Core.Bool.{not}
use mathlib.Core.List.{List, [], ◌∷◌}
use mathlib.Core.Logic.{◌⊎◌, inl, inr}
use Prim.Native.Nat.{ℕ, ◌≤◌}
use native.Mathlib.Omega.{arith}
use borrow.Author.Tests.{eqb-true, not-false}
use lib.Dec.{eqb, ltb}
use lib.ListN.{length, get_or, take}
use Rattle.base.specs.Filling.{filled}
use Rattle.base.proofs.Choice.{pick_either, pick_by}
use Rattle.base.proofs.Places.{take_placed}
use Rattle.gate_commands.specs.Commands.{Operation, operation, answers, refuses, function_of, commands, functioning, commanding, operate_byte, operating, command_of, command_writing}
use Rattle.gate_commands.specs.declared.GateRegisters.{GateRegisters}
use Rattle.gate_commands.proofs.Safety.{command_carried_out}
use Rattle.gate_answers.specs.Answers.{answer_bytes}
use Rattle.gate_answers.specs.declared.BarrierAnswer.TheVariants.{Ack, Nak}
use Rattle.gate_laws.specs.Commands.{WrittenIsCarriedOut, CarriedOutIsWritten, CommandArrives, VerdictIsAnswer}
use Rattle.gate_laws.proofs.Telegrams.{written_is_received}
use Rattle.gate_laws.proofs.Written.{Fills, fitted_fills}

-- the command is what the writer wrote
module _ (c f k : ℕ) (buf : List ℕ) (e : (command_writing c f buf).given ≡ filled k) where
  command_fills : Fills k (command_of c f) (command_writing c f buf).output
  unfolding command_writing
  command_fills = fitted_fills k (command_of c f) buf e

pub written_is_carried_out : WrittenIsCarriedOut
written_is_carried_out r c f k buf e = rw (command_fills c f k buf e).is (command_carried_out r c f)

pub command_arrives : CommandArrives
command_arrives r d s c f k n small buf st out e g long room =
    let w = command_fills c f k small e in
    let fits : length (take k (command_writing c f small).output) ≤ length out = rw w.is (omega arith) in
    rw (written_is_received d s n (take k (command_writing c f small).output) buf st out g long fits, w.is, w.long, take_placed (command_of c f) out)
    (command_carried_out r c f)

-- three bytes, the first of them that of a command
three_bytes : (bs : List ℕ) → length bs ≡ 3 → get_or bs 0 0 ≡ operate_byte → bs ≡ command_of (get_or bs 1 0) (get_or bs 2 0)
three_bytes [] n e = absurd (omega arith)
three_bytes (a ∷ []) n e = absurd (omega arith)
three_bytes (a ∷ c ∷ []) n e = absurd (omega arith)
three_bytes (a ∷ c ∷ f ∷ []) n e = rw e
three_bytes (a ∷ c ∷ f ∷ b ∷ bs) n e = absurd (omega arith)

refused_answers : (k b : ℕ) → refuses k ≡ answers b → ⊥
refused_answers k b e = let z : ◌≡◌ {A = ℕ} 0 1 = cc in omega arith

-- data that is answered by a byte
module _ (bs : List ℕ) (b : ℕ) where
  abbrev IsWritten : Operation → Type 0
  IsWritten o = o.verdict ≡ answers b → bs ≡ command_of (get_or bs 1 0) (get_or bs 2 0)

  is_written : (r : GateRegisters) → IsWritten (operating r bs)
  unfolding operating
  is_written r =
      pick_by IsWritten (not (eqb (length bs) 3))
      (λ other e. absurd (refused_answers 7 b e))
      (λ three.
      pick_by IsWritten (not (eqb (get_or bs 0 0) operate_byte))
      (λ other e. absurd (refused_answers 3 b e))
      (λ first e. three_bytes bs (eqb-true _ 3 (not-false _ three)) (eqb-true _ operate_byte (not-false _ first))))

pub carried_out_is_written : CarriedOutIsWritten
carried_out_is_written r bs b = is_written bs b r

-- a byte that answers a command
module _ (b : ℕ) where
  abbrev IsAnswer : Operation → Type 0
  IsAnswer o = o.verdict ≡ answers b → (b ∷ [] ≡ answer_bytes Ack) ⊎ (b ∷ [] ≡ answer_bytes Nak)

  is_ack : (r : GateRegisters) → IsAnswer (operation (answers 0x01) r)
  unfolding answer_bytes
  is_ack r e = inl (cc)

  is_nak : (r : GateRegisters) → IsAnswer (operation (answers 0x02) r)
  unfolding answer_bytes
  is_nak r e = inr (cc)

  is_answer : (r : GateRegisters) (c f : ℕ) → IsAnswer (commanding r c f)
  unfolding commanding functioning function_of
  is_answer r c f =
      pick_either IsAnswer (ltb c commands)
      (pick_either (λ g. IsAnswer (functioning r c g)) (eqb f 0x00)
      (is_ack r)
      (pick_either (λ g. IsAnswer (functioning r c g)) (eqb f 0x01)
      (is_ack r)
      (pick_either (λ g. IsAnswer (functioning r c g)) (eqb f 0x02) (is_ack r) (is_nak r))))
      (is_nak r)

pub verdict_is_answer : VerdictIsAnswer
verdict_is_answer r bs b e =
    let same = ap (operating r) (carried_out_is_written r bs b e) ∙ command_carried_out r (get_or bs 1 0) (get_or bs 2 0) in
    is_answer b r (get_or bs 1 0) (get_or bs 2 0) (cc)
