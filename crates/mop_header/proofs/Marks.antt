-- The mark: what its first byte has to be.
-- Assumes nothing.
use mathlib.Core.Path.{◌≡◌, refl}
use mathlib.Core.Bool.{true}
use Prim.Native.Nat.{ℕ, zero, suc}
use borrow.Author.Tests.{eqb-true, eq-eqb}
use Rattle.mop_block.specs.Block.{first}
use Rattle.mop_header.specs.Header.{Head, mark_byte, mark_is, with_mark, mark_agrees, remarked}
use Rattle.mop_header.specs.declared.Form.{Form}
use Rattle.mop_header.specs.declared.Form.TheVariants.{Standard, Extended}
use Rattle.mop_header.specs.declared.Function.TheVariants.{Request, Reply}

pub mark_request : (a : ℕ) → mark_byte Request a ≡ 0xEF
unfolding mark_byte
mark_request a = refl

pub mark_home : (a : ℕ) → a ≡ 0 → mark_byte Reply a ≡ 0x00
unfolding mark_byte
mark_home a e = rw e

pub mark_away : (a : ℕ) → (a ≡ 0 → ⊥) → mark_byte Reply a ≡ 0xEF
unfolding mark_byte
mark_away zero n = absurd (n refl)
mark_away (suc a) n = refl

-- a header with its mark set agrees, and setting the mark leaves one that agrees as it is
with_has : (m : Form) (k : ℕ) → mark_is (with_mark m k) k ≡ true
unfolding mark_is with_mark
with_has Standard k = refl
with_has (Extended m) k = eq-eqb k k refl

has_with : (m : Form) (k : ℕ) → mark_is m k ≡ true → with_mark m k ≡ m
unfolding mark_is with_mark
has_with Standard k e = refl
has_with (Extended m) k e = rw (eqb-true m k e)

module _ (h : Head) where
  pub remarked_agrees : mark_agrees (remarked h) ≡ true
  unfolding mark_agrees remarked
  remarked_agrees = with_has h.form (mark_byte h.function (first h.block))

  pub agrees_remarked : mark_agrees h ≡ true → remarked h ≡ h
  unfolding mark_agrees remarked
  agrees_remarked e = rw (has_with h.form (mark_byte h.function (first h.block)) e)

  -- the rest of the header stays
  pub remarked_function : (remarked h).function ≡ h.function
  unfolding remarked
  remarked_function = refl

  pub remarked_block : (remarked h).block ≡ h.block
  unfolding remarked
  remarked_block = refl

-- of two marks the last one stays
pub marked_twice : (form : Form) (k l : ℕ) → with_mark (with_mark form k) l ≡ with_mark form l
unfolding with_mark
marked_twice Standard k l = refl
marked_twice (Extended m) k l = refl
