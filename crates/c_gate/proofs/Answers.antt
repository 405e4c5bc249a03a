-- The answers: a position that is judged as it is, the call by the kind, and what reading tells.
-- Assumes nothing.
use mathlib.Core.Path.{◌≡◌, refl, ap, ◌∙◌}
use mathlib.Core.Bool.{true, false, false≢true}
use mathlib.Core.List.{List, [], ◌∷◌}
use Prim.Native.Nat.{ℕ, zero, suc}
use native.Mathlib.Omega.{arith}
use borrow.Author.Tests.{eq-eqb, ne_eqb, leb-true}
use lib.IntN.{ℤ, pos, negsuc}
use lib.ListN.{length, set}
use mir.Syntax.{w8}
use mir.Val.{SFits}
use Rattle.gate_answers.specs.Answers.{is_position, Reading, reads, refuses, position_at, answer_reading}
use Rattle.gate_answers.specs.declared.BarrierAnswer.{BarrierAnswer}
use Rattle.gate_answers.specs.declared.BarrierAnswer.TheVariants.{Position}
use Rattle.c_answer.specs.Answer.{done, refused, Written}
use Rattle.c_gate.specs.Answers.{answer_at, written_of, write_answer_call, kind_of, number_in, answer_told, read_answer_call}

-- a position is narrowed without loss
pub position_fits : (z : ℤ) → is_position z ≡ true → SFits w8 z
unfolding is_position
position_fits (pos n) h = record { sfits = omega (arith, leb-true n 100 h) }
position_fits (negsuc zero) h = record { sfits = omega arith }
position_fits (negsuc (suc n)) h = absurd (false≢true h)

module _ (z : ℤ) where
  pub position_refused : is_position z ≡ false → refuses 10 ≡ position_at z
  unfolding position_at
  position_refused h = rw h

  pub position_taken : {y : ℤ} → y ≡ z → is_position z ≡ true → reads (Position y) ≡ position_at z
  unfolding position_at
  position_taken is h = rw (is, h)

-- the call by the answer
module _ (k : ℕ) (z : ℤ) where
  pub writes : (out : List ℕ) {x : Reading} {w : Written} → x ≡ answer_at k z → w ≡ written_of x out → w ≡ write_answer_call k z out
  unfolding write_answer_call
  writes out is told = told ∙ ap (λ (r : Reading). written_of r out) is

-- one place is filled by what is stored
one_stored : (l : List ℤ) (z : ℤ) → length l ≡ 1 → set l 0 z ≡ z ∷ []
one_stored [] z e = absurd (omega arith)
one_stored (x ∷ []) z e = refl
one_stored (x ∷ y ∷ l) z e = absurd (omega arith)

-- what is told, by the places and by what is read
module _ (bs : List ℕ) (number : List ℤ) where
  pub no_place : (length number ≡ 1 → ⊥) → read_answer_call bs number ≡ answer_told (refused 1) number
  unfolding read_answer_call
  no_place h = rw (ne_eqb (length number) 1 h)

  module _ (h : length number ≡ 1) where
    pub tells : {a : BarrierAnswer} {n : ℕ} {z : ℤ} → reads a ≡ answer_reading bs → n ≡ done (kind_of a) → z ≡ number_in a →
        answer_told n (set number 0 z) ≡ read_answer_call bs number
    unfolding read_answer_call
    tells {a} {n} {z} is kind value = rw (eq-eqb (length number) 1 h, ← is, kind, one_stored number z h, value)

    pub tells_refusal : {k n : ℕ} → refuses k ≡ answer_reading bs → n ≡ refused k → answer_told n number ≡ read_answer_call bs number
    unfolding read_answer_call
    tells_refusal is value = rw (eq-eqb (length number) 1 h, ← is, value)
