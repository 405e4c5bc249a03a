-- Numbers passed one by one, each noted as seen in a table: where each was an address and not seen before, they are distinct.
-- Assumes nothing.
use mathlib.Core.Path.{◌≡◌, refl, sym, ◌∙◌}
use mathlib.Core.Bool.{Bool, true, false, not, ◌&&◌, ◌||◌, and-false, and-eq-true_iff}
use mathlib.Core.List.{List, [], ◌∷◌}
use Prim.Native.Nat.{ℕ, ◌+◌, ◌≤◌, ◌<◌}
use native.Mathlib.Numerals.{add-one}
use native.Mathlib.Omega.{arith}
use lib.Dec.{eqb, leb}
use lib.ListN.{length, get_or, set, drop, replicate, length-replicate, length-set, drop_of_length-le}
use lib.Seq.{drop-cons, get_or-set_same, get_or-set_other}
use borrow.Author.Tests.{eqb-true, eqb-false, leb-true}
use Rattle.base.proofs.Places.{get_d_all}
use Rattle.mop_block.specs.Block.{is_address, has, distinct_addresses}

-- whether each number is an address and not seen, with those before it seen as well
unfoldable pub all_new : List Bool → List ℕ → Bool
all_new seen [] = true
all_new seen (a ∷ rest) = is_address a && not (get_or seen a false) && all_new (set seen a true) rest

-- whether no number was seen
unfoldable unseen : List Bool → List ℕ → Bool
unseen seen [] = true
unseen seen (a ∷ rest) = not (get_or seen a false) && unseen seen rest

swap : (g h u : Bool) → not g && (not h && u) ≡ not h && (not g && u)
swap true true u = refl
swap true false u = refl
swap false h u = refl

unseen_other : (seen : List Bool) (a x : ℕ) (rest : List ℕ) (t : Bool) → eqb a x ≡ t → a < length seen →
    unseen (set seen a true) rest ≡ not (has a rest) && unseen seen rest →
    not (get_or (set seen a true) x false) && unseen (set seen a true) rest ≡ not (t || has a rest) && (not (get_or seen x false) && unseen seen rest)
unseen_other seen a x rest true e h ih = rw (← eqb-true a x e, get_or-set_same seen a true false h)
unseen_other seen a x rest false e h ih =
    rw (get_or-set_other seen a x true false (λ k. eqb-false a x e (sym k)), ih) (swap (get_or seen x false) (has a rest) (unseen seen rest))

unseen_set : (seen : List Bool) (a : ℕ) → a < length seen → (rest : List ℕ) →
    unseen (set seen a true) rest ≡ not (has a rest) && unseen seen rest
unfolding unseen has
unseen_set seen a h [] = refl
unseen_set seen a h (x ∷ rest) = unseen_other seen a x rest (eqb a x) refl h (unseen_set seen a h rest)

shuffle : (g h u d : Bool) → g && (h && u && d) ≡ g && u && (h && d)
shuffle false h u d = refl
shuffle true false true d = refl
shuffle true false false d = refl
shuffle true true u d = refl

new_first : (seen : List Bool) (a : ℕ) (rest : List ℕ) (t : Bool) → is_address a ≡ t → length seen ≡ 256 →
    all_new (set seen a true) rest ≡ unseen (set seen a true) rest && distinct_addresses rest →
    t && not (get_or seen a false) && all_new (set seen a true) rest ≡
    not (get_or seen a false) && unseen seen rest && (t && not (has a rest) && distinct_addresses rest)
unfolding is_address
new_first seen a rest false e l ih = sym (and-false (not (get_or seen a false) && unseen seen rest))
new_first seen a rest true e l ih =
    let p = (and-eq-true_iff (leb 1 a) (leb a 0xF0)).0 e in
    let h : a < length seen = omega (arith, leb-true a 0xF0 p.1) in
    rw (ih, unseen_set seen a h rest) (shuffle (not (get_or seen a false)) (not (has a rest)) (unseen seen rest) (distinct_addresses rest))

new_parts : (seen : List Bool) (l : List ℕ) → length seen ≡ 256 → all_new seen l ≡ unseen seen l && distinct_addresses l
unfolding all_new unseen distinct_addresses
new_parts seen [] e = refl
new_parts seen (a ∷ rest) e =
    new_first seen a rest (is_address a) refl e (new_parts (set seen a true) rest (simp length-set e))

unseen_clear : (n : ℕ) (l : List ℕ) → unseen (replicate n false) l ≡ true
unfolding unseen
unseen_clear n [] = refl
unseen_clear n (a ∷ l) = rw (get_d_all n a false) (unseen_clear n l)

-- with a clear table
pub new_clear : (l : List ℕ) → all_new (replicate 256 false) l ≡ distinct_addresses l
new_clear l = new_parts (replicate 256 false) l (length-replicate 256 false) ∙ rw (unseen_clear 256 l)

-- the number at place i, and what is left behind it
module _ (l : List ℕ) (i : ℕ) (seen : List Bool) where
  pub new_next : i < length l → all_new seen (drop i l) ≡
      is_address (get_or l i 0) && not (get_or seen (get_or l i 0) false) && all_new (set seen (get_or l i 0) true) (drop (i + 1) l)
  unfolding all_new
  new_next h = rw (add-one, drop-cons l i 0 h)

  pub new_end : length l ≤ i → all_new seen (drop i l) ≡ true
  unfolding all_new
  new_end h = rw (drop_of_length-le l h)
