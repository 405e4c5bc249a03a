-- The two cases of filling an output.
-- Assumes nothing.
use mathlib.Core.Path.{◌≡◌}
use mathlib.Core.List.{List}
use Prim.Native.Nat.{ℕ, ◌≤◌, ◌<◌}
use borrow.Author.Tests.{lt-ltb, le-ltb}
use lib.ListN.{length}
use lib.Seq.{sets}
use Rattle.base.specs.Filling.{Filling, filled, fitted, denied, written}
use Rattle.base.proofs.Places.{sets_placed}

module _ (bytes out : List ℕ) where
  pub fitted_short : length out < length bytes → fitted bytes out ≡ denied 11 out
  unfolding fitted
  fitted_short h = simp (lt-ltb _ _ h)

  pub fitted_room : length bytes ≤ length out → fitted bytes out ≡ written bytes out
  unfolding fitted
  fitted_room h = simp (le-ltb _ _ h)

  -- bytes that were stored from the first place on
  pub fitted_stored : length bytes ≤ length out →
      ◌≡◌ {A = Filling} (record { given = filled (length bytes); output = sets out 0 bytes }) (fitted bytes out)
  fitted_stored h = rw (sets_placed bytes out h, fitted_room h)
