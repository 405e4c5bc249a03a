-- `is_address`: each test is the definition's.
-- Assumes nothing.
use native.Mathlib.Omega.{arith}
use borrow.Author.Tests.{lt-leb, le-leb}
use Rattle.mop_block.specs.Block.{is_address}
use Rattle.mop_block.proofs.is_address.Goals as goal

pub returns-then-a-ge1 : goal.returns-then-a-ge1
unfolding is_address
returns-then-a-ge1 c = rw (le-leb 1 c.args.a c.if-a-ge1.true)

pub returns-else-a-ge1 : goal.returns-else-a-ge1
unfolding is_address
returns-else-a-ge1 c = rw (lt-leb 1 c.args.a (omega arith))
