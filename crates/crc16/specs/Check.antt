-- What every check by a polynomial shares: steps of one bit, and bytes in turn.
-- Assumes nothing.
use Rattle.std.specs.Prelude.{ℕ, zero, suc, List, [], ◌∷◌}

-- so many steps of one bit each
abbrev pub steps : (ℕ → ℕ) → ℕ → ℕ → ℕ
steps step zero c = c
steps step (suc n) c = steps step n (step c)

-- each byte in turn goes into the running value
unfoldable pub run_over : (ℕ → ℕ → ℕ) → ℕ → List ℕ → ℕ
run_over byte c [] = c
run_over byte c (b ∷ bs) = run_over byte (byte c b) bs
