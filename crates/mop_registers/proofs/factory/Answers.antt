-- `factory`: the factory column of the rows.
-- Assumes nothing.
use mathlib.Core.Path.{refl}
use Rattle.mop_registers.specs.Rows.{factory}
use Rattle.mop_registers.proofs.factory.Goals as goal

pub returns : goal.returns
unfolding factory
returns c = refl
