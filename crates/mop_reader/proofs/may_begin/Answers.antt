-- `may_begin`: by the function.
-- Assumes nothing.
use borrow.Author.Tests.{ne_eqb}
use Rattle.mop_header.specs.Header.{may_begin}
use Rattle.mop_reader.proofs.may_begin.Goals as goal

pub returns-in-Request : goal.returns-in-Request
unfolding may_begin
returns-in-Request c = rw c.in-Request.is

pub returns-then-a-eq-MARK : goal.returns-then-a-eq-MARK
unfolding may_begin
returns-then-a-eq-MARK c = rw (c.in-Reply.is, c.if-a-eq-MARK.true)

pub returns-else-a-eq-MARK : goal.returns-else-a-eq-MARK
unfolding may_begin
returns-else-a-eq-MARK c = rw (c.in-Reply.is, ne_eqb c.args.a 0xEF c.if-a-eq-MARK.false)
