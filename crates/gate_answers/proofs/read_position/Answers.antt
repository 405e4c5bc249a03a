-- `read_position`: the test of the number that the byte stands for.
-- Assumes nothing.
use mathlib.Core.Path.{◌≡◌, sym, ap, ◌∙◌}
use mir.Syntax.{w8}
use mir.Val.{SFits}
use mir.Facts.{to_z-of_z}
use Rattle.gate_answers.specs.Answers.{is_position, position_at}
use Rattle.gate_answers.proofs.Positions.{widened}
use Rattle.gate_answers.proofs.read_position.Goals as goal
use Rattle.gate_answers.proofs.read_position.Goals.{After-is_position}

fits : (c : After-is_position) → SFits w8 c.from_bits-z.result
fits c = record { sfits = c.from_bits-z.type_inv }

tested : (c : After-is_position) → is_position c.from_bits-z.result ≡ c.is_position.result
tested c = ap is_position (sym (widened c.from_bits-z.result (fits c) ∙ to_z-of_z (fits c))) ∙ sym c.is_position.ensures

pub returns-then-is_position : goal.returns-then-is_position
unfolding position_at
returns-then-is_position c =
    let s = (goal.at.returns-then-is_position c).After-is_position in
    rw (← c.from_bits-z.ensures, to_z-of_z (fits s), tested s ∙ c.if-is_position.true)

pub returns-else-is_position : goal.returns-else-is_position
unfolding position_at
returns-else-is_position c =
    let s = (goal.at.returns-else-is_position c).After-is_position in
    rw (← c.from_bits-z.ensures, tested s ∙ c.if-is_position.false)
