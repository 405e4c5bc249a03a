-- `mark_of`: by the function, and in a reply by the first entry.
-- Assumes nothing.
use mathlib.Core.Path.{sym}
use Rattle.mop_header.proofs.Marks.{mark_request, mark_home, mark_away}
use Rattle.mop_header.proofs.mark_of.Goals as goal

pub returns-then-first-eq0 : goal.returns-then-first-eq0
returns-then-first-eq0 c = rw c.in-Reply.is (sym (mark_home _ c.if-first-eq0.true))

pub returns-in-Request : goal.returns-in-Request
returns-in-Request c = rw c.in-Request.is (sym (mark_request _))

pub returns-else-first-eq0 : goal.returns-else-first-eq0
returns-else-first-eq0 c = rw c.in-Reply.is (sym (mark_away _ c.if-first-eq0.false))
