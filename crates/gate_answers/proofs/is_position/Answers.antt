-- `is_position`: each return is a case of the first comparison.
-- Assumes nothing.
use mathlib.Core.Path.{sym}
use mir.Facts.{to_z-of_z}
use Rattle.gate_answers.proofs.Positions.{position_below, position_upto}
use Rattle.gate_answers.proofs.is_position.Goals as goal

pub returns-then-z-geminus1 : goal.returns-then-z-geminus1
returns-then-z-geminus1 c =
    rw (to_z-of_z c.ranges.z) (sym (position_upto c.args.z (rw (to_z-of_z c.ranges.z) at c.if-z-geminus1.true)))

pub returns-else-z-geminus1 : goal.returns-else-z-geminus1
returns-else-z-geminus1 c =
    let below = rw (to_z-of_z c.ranges.z) at c.if-z-geminus1.false in
    rw (to_z-of_z c.ranges.z, below) (sym (position_below c.args.z below))
