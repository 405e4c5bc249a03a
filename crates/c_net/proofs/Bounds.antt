-- How large the numbers of a dry run are.
-- Assumes nothing.
use mathlib.Core.Path.{subst}
use Rattle.c_net.specs.Bounds.{NetBounds}
use Rattle.c_net.proofs.Runs.{SmallRun, small_run, refusal_told}

pub net_bounds : NetBounds
net_bounds = record {
  run = λ telegram addresses tables out count e n is. subst SmallRun is (small_run telegram addresses tables out);
  ending = refusal_told;
}
