-- `first`: the entry at place 0.
-- Assumes nothing.
use Rattle.mop_block.specs.Block.{first}
use Rattle.mop_header.proofs.Header.first.Goals as goal

pub returns : goal.returns
unfolding first
returns c = c.entry.ensures
