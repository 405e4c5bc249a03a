-- New first places of a list, and the stores that make them.
-- Assumes nothing.
use mathlib.Core.Path.{◌≡◌, refl, ◌∙◌, ap}
use mathlib.Core.List.{List, [], ◌∷◌, ◌++◌, append-nil}
use Prim.Native.Nat.{ℕ, zero, suc, ◌+◌, ◌-◌, ◌≤◌}
use native.Mathlib.Nat.{add-suc, suc-add, add-zero, zero-add}
use native.Mathlib.Omega.{arith}
use lib.ListN.{length, get_or, take, drop, set, replicate, length-append, length-drop, drop_of_length-le}
use lib.Seq.{sets, sets-eq, take_all, take-append_seam, drop-append_seam}
use Rattle.base.specs.Places.{placed}

pub sets_append : (l : List ℕ) (i : ℕ) (xs ys : List ℕ) → sets l i (xs ++ ys) ≡ sets (sets l i xs) (i + length xs) ys
sets_append l i [] ys = rw add-zero
sets_append l i (x ∷ xs) ys = rw (add-suc, ← suc-add) (sets_append (set l i x) (suc i) xs ys)

-- all that is left behind some first places
pub take_rest : (k : ℕ) (l : List ℕ) → take (length l - k) (drop k l) ≡ drop k l
take_rest k l = take_all (length l - k) (drop k l) (rw length-drop (omega arith))

pub rest_from : (l : List ℕ) {k n : ℕ} → k ≡ n → take (length l - k) (drop k l) ≡ drop n l
rest_from l {k} e = take_rest k l ∙ ap (λ (n : ℕ). drop n l) e

-- one value in all places is read at every place
pub get_d_all : {A : Type 0} (n i : ℕ) (v : A) → get_or (replicate n v) i v ≡ v
get_d_all zero i v = refl
get_d_all (suc n) zero v = refl
get_d_all (suc n) (suc i) v = get_d_all n i v

module _ (new old : List ℕ) where
  pub sets_placed : length new ≤ length old → sets old 0 new ≡ placed new old
  unfolding placed
  sets_placed h = sets-eq new old 0 (omega arith) ∙ rw zero-add

  pub length_placed : length new ≤ length old → length (placed new old) ≡ length old
  unfolding placed
  length_placed h = simp (length-append, length-drop) (omega arith)

  pub take_placed : take (length new) (placed new old) ≡ new
  unfolding placed
  take_placed = take-append_seam new (drop (length new) old)

  pub drop_placed : drop (length new) (placed new old) ≡ drop (length new) old
  unfolding placed
  drop_placed = drop-append_seam new (drop (length new) old)

  pub take_sets : length new ≤ length old → take (length new) (sets old 0 new) ≡ new
  take_sets h = rw (sets_placed h) take_placed

-- new values in all places of a list
pub sets_all : (new old : List ℕ) → length new ≡ length old → sets old 0 new ≡ new
unfolding placed
sets_all new old e =
    let h : length old ≤ length new = omega arith in
    sets_placed new old (omega arith) ∙ rw (drop_of_length-le old h) (append-nil new)
