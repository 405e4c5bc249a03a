-- What every check by a polynomial shares: one turn and the end of the loop over the bits, bytes in two parts, and a bound.
-- Assumes nothing.
use mathlib.Core.Path.{◌≡◌, refl}
use mathlib.Core.List.{List, [], ◌∷◌, ◌++◌}
use Prim.Native.Nat.{ℕ, zero, suc, ◌+◌, ◌-◌, ◌<◌, ◌≤◌}
use native.Mathlib.Omega.{arith}
use Rattle.crc16.specs.Check.{steps, run_over}

-- n steps, of which i are done
module _ (step : ℕ → ℕ) (n i c : ℕ) where
  pub steps_turn : i < n → steps step (n - i) c ≡ steps step (n - (i + 1)) (step c)
  steps_turn h =
      let e : n - i ≡ suc (n - (i + 1)) = omega arith in
      rw e

  pub steps_end : n ≤ i → steps step (n - i) c ≡ c
  steps_end h =
      let e : n - i ≡ 0 = omega arith in
      rw e

-- the check over two lists end to end goes on where that over the first ends
pub run_append : (byte : ℕ → ℕ → ℕ) (c : ℕ) (xs ys : List ℕ) → run_over byte c (xs ++ ys) ≡ run_over byte (run_over byte c xs) ys
unfolding run_over
run_append byte c [] ys = refl
run_append byte c (x ∷ xs) ys = run_append byte (byte c x) xs ys

-- what every step keeps below a bound stays below it
pub steps_bound : (step : ℕ → ℕ) (bound : ℕ) → ((c : ℕ) → step c < bound) → (n c : ℕ) → steps step (suc n) c < bound
steps_bound step bound below zero c = below c
steps_bound step bound below (suc n) c = steps_bound step bound below n (step c)

pub run_bound : (byte : ℕ → ℕ → ℕ) (bound : ℕ) → ((c b : ℕ) → byte c b < bound) → (c : ℕ) (bytes : List ℕ) → c < bound →
    run_over byte c bytes < bound
unfolding run_over
run_bound byte bound below c [] h = h
run_bound byte bound below c (b ∷ bytes) h = run_bound byte bound below (byte c b) bytes (below c b)
