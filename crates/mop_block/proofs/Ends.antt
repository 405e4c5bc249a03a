-- Where the 00s of a list end.
-- Assumes nothing.
use mathlib.Core.Path.{◌≡◌, refl, ◌∙◌}
use mathlib.Core.List.{List, [], ◌∷◌, ◌++◌, append-nil}
use Prim.Native.Nat.{ℕ, zero, suc, ◌+◌, ◌-◌, ◌≤◌, ◌<◌}
use native.Mathlib.Omega.{arith}
use lib.ListN.{length, get_or}
use Rattle.mop_block.specs.Block.{zero_ends, around}
use Rattle.mop_block.specs.Zipper.{zeros, Full, nil, cons}

pub ends_single : (x : ℕ) → zero_ends (x ∷ []) ≡ 0
unfolding zero_ends
ends_single zero = refl
ends_single (suc a) = refl

-- a station in front adds no end
pub ends_station : (a : ℕ) (xs : List ℕ) → zero_ends (suc a ∷ xs) ≡ zero_ends xs
unfolding zero_ends
ends_station a [] = refl
ends_station a (x ∷ xs) = refl

pub ends_full : {xs : List ℕ} → Full xs → (ys : List ℕ) → zero_ends (xs ++ ys) ≡ zero_ends ys
ends_full nil ys = refl
ends_full (cons {a = a} {xs = xs} f) ys = ends_station a (xs ++ ys) ∙ ends_full f ys

-- of a run of 00s only the last one can end it
pub ends_zeros : (n : ℕ) (ys : List ℕ) → zero_ends (0 ∷ (zeros n ++ ys)) ≡ zero_ends (0 ∷ ys)
unfolding zero_ends
ends_zeros zero ys = refl
ends_zeros (suc n) ys = ends_zeros n ys

pub ends_run : (n : ℕ) → zero_ends (0 ∷ zeros n) ≡ 0
ends_run n = rw (← append-nil (zeros n)) (ends_zeros n [] ∙ ends_single 0)

pub ends_more : (ys : List ℕ) → zero_ends (0 ∷ ys) ≤ 1 + zero_ends ys
unfolding zero_ends
ends_more [] = omega arith
ends_more (zero ∷ ys) = omega arith
ends_more (suc a ∷ ys) = omega arith

-- two neighbours, and what is behind them
pub ends_next : (x y : ℕ) (ys : List ℕ) → zero_ends (x ∷ y ∷ ys) ≡ zero_ends (x ∷ y ∷ []) + zero_ends (y ∷ ys)
unfolding zero_ends
ends_next zero zero ys = omega arith
ends_next zero (suc a) ys = omega arith
ends_next (suc a) y ys = rw (ends_single y) (omega arith)

-- an entry more at the end
ends_snoc : (x : ℕ) (ys : List ℕ) (z : ℕ) → zero_ends (x ∷ (ys ++ (z ∷ []))) ≡ zero_ends (x ∷ ys) + zero_ends (get_or (x ∷ ys) (length ys) 0 ∷ z ∷ [])
ends_snoc x [] z = rw (ends_single x) (omega arith)
ends_snoc x (y ∷ ys) z = omega (arith, ends_next x y (ys ++ (z ∷ [])), ends_next x y ys, ends_snoc y ys z)

-- around the ring: the first entry behind the last one, or the last one before the first
pub ends_ring : (b : List ℕ) → 0 < length b → zero_ends (get_or b (length b - 1) 0 ∷ b) ≡ zero_ends (around b)
unfolding around
ends_ring [] h = absurd (omega arith)
ends_ring (x ∷ xs) h =
    let e : suc (length xs) - 1 ≡ length xs = omega arith in
    rw e (omega (arith, ends_next (get_or (x ∷ xs) (length xs) 0) x xs, ends_snoc x xs x))
