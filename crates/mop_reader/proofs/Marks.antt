-- Which four entries are the mark.
-- Assumes nothing.
use mathlib.Core.Path.{◌≡◌, refl}
use mathlib.Core.Bool.{true, false, ◌&&◌, and-eq-true_iff}
use Prim.Native.Nat.{ℕ, zero, suc}
use lib.Dec.{eqb}
use borrow.Author.Tests.{eqb-true, eq-eqb, ne_eqb}
use Rattle.mop_header.specs.Header.{may_begin, is_mark, mark_byte}
use Rattle.mop_header.specs.declared.Function.{Function}
use Rattle.mop_header.specs.declared.Function.TheVariants.{Request, Reply}

-- what is the mark, and what is not
module _ (f : Function) (a b c d : ℕ) where
  pub second_not_mark : (b ≡ 0xEF → ⊥) → is_mark f a b c d ≡ false
  unfolding is_mark
  second_not_mark p = simp (ne_eqb _ _ p)

  pub third_not_mark : b ≡ 0xEF → (c ≡ 0xEF → ⊥) → is_mark f a b c d ≡ false
  unfolding is_mark
  third_not_mark p q = simp (eq-eqb _ _ p, ne_eqb _ _ q)

  pub fourth_not_mark : b ≡ 0xEF → c ≡ 0xEF → (d ≡ 0xEF → ⊥) → is_mark f a b c d ≡ false
  unfolding is_mark
  fourth_not_mark p q r = simp (eq-eqb _ _ p, eq-eqb _ _ q, ne_eqb _ _ r)

  pub by_first : b ≡ 0xEF → c ≡ 0xEF → d ≡ 0xEF → is_mark f a b c d ≡ may_begin f a
  unfolding is_mark
  by_first p q r = simp (eq-eqb _ _ p, eq-eqb _ _ q, eq-eqb _ _ r)

  pub mark_entries : is_mark f a b c d ≡ true → (b ≡ 0xEF) × (c ≡ 0xEF) × (d ≡ 0xEF)
  unfolding is_mark
  mark_entries e =
      let p = (and-eq-true_iff (eqb b 0xEF) (eqb c 0xEF && (eqb d 0xEF && may_begin f a))).0 e in
      let q = (and-eq-true_iff (eqb c 0xEF) (eqb d 0xEF && may_begin f a)).0 p.1 in
      let r = (and-eq-true_iff (eqb d 0xEF) (may_begin f a)).0 q.1 in
      (eqb-true b 0xEF p.0, eqb-true c 0xEF q.0, eqb-true d 0xEF r.0)

-- the first byte that a mark has to have makes it one
pub own_mark : (f : Function) (a : ℕ) → is_mark f (mark_byte f a) 0xEF 0xEF 0xEF ≡ true
unfolding is_mark may_begin mark_byte
own_mark Request a = refl
own_mark Reply zero = refl
own_mark Reply (suc a) = refl
