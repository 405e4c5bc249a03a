-- How large the numbers of a dry run are: far below 2^32, so that value and kind can be told apart; and how the number of an ending
-- is told from those of the other endings.
-- Assumes nothing.
use Rattle.std.specs.Prelude.{ℕ, ◌≤◌, ◌≡◌, List}
use Rattle.net_journey.specs.Journey.{Ending, refused_with}
use Rattle.net_journey.specs.Bounded.{most_transmissions}
use Rattle.net_dry_run.specs.DryRun.{played, run_output, dry_run}

pub record NetBounds : Type 0 where
  pub run : (telegram addresses tables out : List ℕ) (count : ℕ) (e : Ending) (n : ℕ) →
      (dry_run telegram addresses tables out).outcome ≡ played count e n → (count ≤ most_transmissions) × (n ≤ run_output)
  -- the ending of a run is told by one number: that of a station's refusal is neither 0, at an entry 00, nor 1, at nobody's address
  pub ending : (telegram addresses tables out : List ℕ) (count k n : ℕ) →
      (dry_run telegram addresses tables out).outcome ≡ played count (refused_with k) n → (7 ≤ k) × (k ≤ 10)
