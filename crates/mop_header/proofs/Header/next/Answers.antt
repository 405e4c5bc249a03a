-- `next`: the entry at place 1.
-- Assumes nothing.
use Rattle.mop_block.specs.Block.{next}
use Rattle.mop_header.proofs.Header.next.Goals as goal

pub returns : goal.returns
unfolding next
returns c = c.entry.ensures
