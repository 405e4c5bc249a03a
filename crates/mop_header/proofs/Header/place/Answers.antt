-- `place`: turn, where that is a place of the block.
-- Assumes nothing.
use native.Mathlib.Omega.{arith}
use borrow.Author.Tests.{lt-ltb, le-ltb}
use Rattle.mop_header.specs.Private.Places.{first_place}
use Rattle.mop_header.proofs.Header.place.Goals as goal

pub returns-then-self : goal.returns-then-self
unfolding first_place
returns-then-self c = record { value = rw (lt-ltb _ _ c.if-self.true); upper_bound = omega arith }

pub returns-else-self : goal.returns-else-self
unfolding first_place
returns-else-self c = record { value = rw (le-ltb _ _ c.if-self.false); upper_bound = omega arith }
