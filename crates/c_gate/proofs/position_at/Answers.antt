-- `position_at`: the test of the number, and then it is narrowed without loss.
-- Assumes nothing.
use mathlib.Core.Path.{◌≡◌, sym, ap, ◌∙◌}
use mir.Facts.{to_z-of_z}
use Rattle.gate_answers.specs.Answers.{is_position}
use Rattle.c_gate.proofs.Answers.{position_fits, position_refused, position_taken}
use Rattle.c_gate.proofs.position_at.Goals as goal
use Rattle.c_gate.proofs.position_at.Goals.{After-is_position}

-- the test of the number
tested : (c : After-is_position) → is_position c.args.number ≡ c.is_position.result
tested c = ap is_position (sym (to_z-of_z c.ranges.number)) ∙ sym c.is_position.ensures

pub returns-else-is_position : goal.returns-else-is_position
returns-else-is_position c = position_refused _ (tested (goal.at.returns-else-is_position c).After-is_position ∙ c.if-is_position.false)

pub overflow_cast-result : goal.overflow_cast-result
overflow_cast-result c =
    rw (to_z-of_z c.ranges.number) (position_fits _ (tested (goal.at.overflow_cast-result c).After-is_position ∙ c.if-is_position.true))

pub returns-then-is_position : goal.returns-then-is_position
returns-then-is_position c =
    let taken = tested (goal.at.returns-then-is_position c).After-is_position ∙ c.if-is_position.true in
    position_taken _ (rw (to_z-of_z c.ranges.number) (to_z-of_z (position_fits _ taken))) taken
