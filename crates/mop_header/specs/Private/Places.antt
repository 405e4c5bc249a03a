-- Which place of the slice the first entry of a header stands at. Only a private contract cites this.
-- Assumes nothing.
use Rattle.std.specs.Prelude.{ℕ, ltb}
use Rattle.base.specs.Choice.{pick}

-- turn, or 0 where that is past the block
unfoldable pub first_place : ℕ → ℕ → ℕ
first_place count turn = pick (ltb turn count) turn 0
