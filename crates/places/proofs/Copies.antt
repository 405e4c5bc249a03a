-- Runs of stores: one more of them, and those that have no place.
-- Assumes nothing.
use mathlib.Core.Path.{◌≡◌, refl, ap}
use mathlib.Core.List.{List, [], ◌∷◌}
use Prim.Native.Nat.{ℕ, zero, suc, ◌≤◌}
use native.Mathlib.Omega.{arith}
use lib.ListN.{length, set}
use lib.Seq.{sets}

set_beyond : (l : List ℕ) (i v : ℕ) → length l ≤ i → set l i v ≡ l
set_beyond [] i v h = refl
set_beyond (x ∷ l) zero v h = absurd (omega arith)
set_beyond (x ∷ l) (suc i) v h = ap (λ (k : List ℕ). x ∷ k) (set_beyond l i v (omega arith))

-- stores behind the last place
pub sets_beyond : (l : List ℕ) (i : ℕ) (vs : List ℕ) → length l ≤ i → sets l i vs ≡ l
sets_beyond l i [] h = refl
sets_beyond l i (v ∷ vs) h = rw (set_beyond l i v h) (sets_beyond l (suc i) vs (omega arith))

-- no store
pub sets_none : (l : List ℕ) (i : ℕ) (vs : List ℕ) → length vs ≡ 0 → sets l i vs ≡ l
sets_none l i [] e = refl
sets_none l i (v ∷ vs) e = absurd (omega arith)
