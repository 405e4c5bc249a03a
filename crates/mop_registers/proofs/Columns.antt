-- Writes and ranges at a place, against the row there.
-- Assumes nothing.
use mathlib.Core.Path.{◌≡◌, refl, sym, ◌∙◌, ap, subst}
use mathlib.Core.Bool.{Bool, true, false, ◌&&◌}
use Prim.Native.Nat.{ℕ, zero, suc, ◌+◌, ◌≤◌, ◌<◌}
use native.Mathlib.Nat.{zero-add}
use native.Mathlib.Omega.{arith}
use borrow.Author.Tests.{eqb-true, eqb-false}
use lib.Dec.{eqb}
use lib.ListN.{drop_of_length-le}
use Rattle.std.specs.Prelude.{Option, Some}
use Rattle.mop_registers.specs.Rows.{rows, table_length, place_of, write_of, range_of, may_write, takes}
use Rattle.mop_registers.specs.Private.Columns.{values_in, write_at, range_at}
use Rattle.mop_registers.specs.declared.Range.{Range}
use Rattle.mop_registers.proofs.Tests.{both_true}

-- what is said of the place of a number's row is said of the number
module _ (n : ℕ) {p : ℕ} (at : p ≡ place_of n) where
  pub write_said : {b : Bool} → b ≡ write_at p → b ≡ may_write n
  unfolding may_write write_at
  write_said said = said ∙ ap write_at at

  pub range_said : {r x : Option Range} → values_in r ≡ range_at p → r ≡ x → (v : ℕ) → values_in x v ≡ takes n v
  unfolding takes range_at
  range_said said told v = ap (λ (f : ℕ → Bool). f v) (sym (ap values_in told) ∙ said ∙ ap range_at at)

  pub some_said : {r : Option Range} {x y : Range} → values_in r ≡ range_at p → r ≡ Some x → x ≡ y → (v : ℕ) → values_in (Some y) v ≡ takes n v
  some_said said told kind v = range_said said (told ∙ ap Some kind) v

-- a test holds of n places, the first of which is given
abbrev pub tried : (ℕ → Bool) → ℕ → ℕ → Bool
tried f zero start = true
tried f (suc n) start = f start && tried f n (suc start)

pub tried_at : (f : ℕ → Bool) (n start : ℕ) → tried f n start ≡ true → (p : ℕ) → start ≤ p → p < start + n → f p ≡ true
tried_at f zero start e p low high = absurd (omega arith)
tried_at f (suc n) start e p low high =
    let both = both_true (f start) (tried f n (suc start)) e in
    go both.0 (tried_at f n (suc start) both.1 p) (eqb start p) refl
  where
    go : f start ≡ true → (suc start ≤ p → p < suc start + n → f p ≡ true) → (b : Bool) → eqb start p ≡ b → f p ≡ true
    go here later true same = subst (λ (k : ℕ). f k ≡ true) (eqb-true start p same) here
    go here later false other = later (omega (arith, eqb-false start p other)) (omega arith)

-- T, and a place is none of n from one on: what a match over these leaves to its last arm
abbrev pub NoneFrom : Type 0 → ℕ → ℕ → ℕ → Type 0
NoneFrom T p zero start = T
NoneFrom T p (suc n) start = NoneFrom (T × (p ≡ start → ⊥)) p n (suc start)

none_from : (n : ℕ) (T : Type 0) (p start : ℕ) → NoneFrom T p n start → T × (start ≤ p → start + n ≤ p)
none_from zero T p start t = (t, λ h. omega arith)
none_from (suc n) T p start t =
    let k = none_from n (T × (p ≡ start → ⊥)) p (suc start) t in
    (k.0.0, λ h. omega (arith, k.1 (omega (arith, k.0.1))))

pub past_all : (n : ℕ) (T : Type 0) (p : ℕ) → NoneFrom T p n 0 → n ≤ p
past_all n T p t = rw zero-add at ((none_from n T p 0 t).1 (omega arith))

-- behind the last row
module _ (p : ℕ) (past : table_length ≤ p) where
  pub no_write : write_at p ≡ false
  unfolding write_at table_length
  no_write = ap write_of (drop_of_length-le rows past)

  pub no_value : range_at p ≡ (λ v. false)
  unfolding range_at table_length
  no_value = ap range_of (drop_of_length-le rows past)
