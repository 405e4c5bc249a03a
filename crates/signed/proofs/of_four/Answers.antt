-- `of_four`: the library's sum.
-- Assumes nothing.
use native.Mathlib.Omega.{arith}
use Rattle.signed.specs.Signed.{of_four}
use Rattle.signed.proofs.of_four.Goals as goal

pub returns : goal.returns
unfolding of_four
returns c = omega arith
