-- `zero_end`: by the first of the two neighbours.
-- Assumes nothing.
use mathlib.Core.Path.{sym}
use borrow.Author.Tests.{ne_eqb}
use Rattle.mop_block.proofs.Scan.{pair_station, pair_zero}
use Rattle.mop_block.proofs.zero_end.Goals as goal

pub returns-then-x-eq0 : goal.returns-then-x-eq0
returns-then-x-eq0 c = rw c.if-x-eq0.true (pair_zero c.args.y)

pub returns-else-x-eq0 : goal.returns-else-x-eq0
returns-else-x-eq0 c = rw (ne_eqb c.args.x 0 c.if-x-eq0.false) (sym (pair_station _ _ c.if-x-eq0.false))
