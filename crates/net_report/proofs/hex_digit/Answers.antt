-- `hex_digit`: each return is a side of the choice.
-- Assumes nothing.
use borrow.Author.Tests.{lt-ltb, le-ltb}
use native.Mathlib.Omega.{arith}
use Rattle.net_report.specs.Text.{hex_digit}
use Rattle.net_report.proofs.hex_digit.Goals as goal

pub returns-then-n-lt10 : goal.returns-then-n-lt10
unfolding hex_digit
returns-then-n-lt10 c = simp (lt-ltb c.args.n 10 (omega arith))

pub returns-else-n-lt10 : goal.returns-else-n-lt10
unfolding hex_digit
returns-else-n-lt10 c = simp (le-ltb c.args.n 10 (omega arith))
