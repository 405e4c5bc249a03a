-- The stations of a block, and lists without a 00.
-- Assumes nothing.
use mathlib.Core.Path.{◌≡◌, refl, sym, ◌∙◌, ap}
use mathlib.Core.Bool.{true, not, ◌&&◌, and-eq-true_iff, false≢true}
use mathlib.Core.List.{List, [], ◌∷◌, ◌++◌, reverse, append-nil, reverse-cons}
use Prim.Native.Nat.{ℕ, zero, suc, ◌≤◌, ◌<◌}
use native.Mathlib.Omega.{arith}
use lib.Dec.{eqb-zero-suc}
use lib.ListN.{length}
use Rattle.mop_block.specs.Block.{is_address, has, distinct_addresses, stations, good_block}
use Rattle.mop_block.specs.Zipper.{zeros, spread, returned, Full, nil, cons}
use Rattle.mop_block.proofs.Counts.{good_parts}

pub full_append : {xs ys : List ℕ} → Full xs → Full ys → Full (xs ++ ys)
full_append nil g = g
full_append (cons f) g = cons (full_append f g)

pub full_reverse : {xs : List ℕ} → Full xs → Full (reverse xs)
full_reverse nil = nil
full_reverse (cons f) = rw reverse-cons (full_append (full_reverse f) (cons nil))

stations_append : {xs : List ℕ} → Full xs → (ys : List ℕ) → stations (xs ++ ys) ≡ xs ++ stations ys
unfolding stations
stations_append nil ys = refl
stations_append (cons {a = a} f) ys = ap (λ (l : List ℕ). suc a ∷ l) (stations_append f ys)

stations_zeros : (n : ℕ) (ys : List ℕ) → stations (zeros n ++ ys) ≡ stations ys
unfolding stations
stations_zeros zero ys = refl
stations_zeros (suc n) ys = stations_zeros n ys

pub stations_full : {xs : List ℕ} → Full xs → stations xs ≡ xs
unfolding stations
stations_full {xs} f = ap stations (sym (append-nil xs)) ∙ stations_append f [] ∙ append-nil xs

pub stations_spread : {ahead passed : List ℕ} (z : ℕ) → Full ahead → Full passed → stations (spread ahead z passed) ≡ ahead ++ passed
unfolding stations
stations_spread {ahead} {passed} z f g =
    rw (stations_append f (0 ∷ (zeros z ++ passed)), stations_zeros z passed, stations_full g)

pub stations_returned : {ahead : List ℕ} (z : ℕ) → Full ahead → stations (returned ahead z) ≡ ahead
unfolding stations
stations_returned {ahead} z f =
    rw (stations_append f (zeros z), ← append-nil (zeros z), stations_zeros z [], append-nil ahead)

-- a block with a 00 names fewer stations than it has entries
stations_bound : (b : List ℕ) → length (stations b) ≤ length b
unfolding stations
stations_bound [] = omega arith
stations_bound (zero ∷ b) = omega (arith, stations_bound b)
stations_bound (suc a ∷ b) = omega (arith, stations_bound b)

fewer : (b : List ℕ) → has 0 b ≡ true → length (stations b) < length b
unfolding stations has
fewer [] h = absurd (false≢true h)
fewer (zero ∷ b) h = omega (arith, stations_bound b)
fewer (suc a ∷ b) h = omega (arith, fewer b (rw (eqb-zero-suc a) at h))

pub named_bound : (b : List ℕ) → good_block b ≡ true → length (stations b) < length b
named_bound b g = fewer b (good_parts b g).zero_in

pub good_length : (b : List ℕ) → good_block b ≡ true → 0 < length b
good_length b g = omega (arith, named_bound b g)

-- a 00 is no address
pub distinct_full : (l : List ℕ) → distinct_addresses l ≡ true → Full l
unfolding distinct_addresses is_address
distinct_full [] d = nil
distinct_full (zero ∷ l) d = absurd (false≢true d)
distinct_full (suc a ∷ l) d = cons (distinct_full l ((and-eq-true_iff (is_address (suc a) && not (has (suc a) l)) (distinct_addresses l)).0 d).1)
