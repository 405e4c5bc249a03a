-- `new`: a header that is not turned.
-- Assumes nothing.
use mathlib.Core.Path.{ap}
use Rattle.mop_header.specs.Header.{head, entries}
use Rattle.mop_header.proofs.Turns.{rolled_zero}
use Rattle.mop_header.proofs.Header.new.Goals as goal

pub returns : goal.returns
returns c = λ slice. ap (head c.args.function c.args.control c.args.form) (rolled_zero (entries c.args.count slice))
