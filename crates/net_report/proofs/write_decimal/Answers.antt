-- `write_decimal`: each return is a side of the choice.
-- Assumes nothing.
use borrow.Author.Tests.{lt-ltb, le-ltb}
use native.Mathlib.Omega.{arith}
use native.Mathlib.Numerals.{add-one}
use lib.ListN.{length-set}
use Rattle.net_report.specs.Text.{decimal}
use Rattle.net_report.proofs.write_decimal.Goals as goal

pub returns-then-n-lt10 : goal.returns-then-n-lt10
unfolding decimal
returns-then-n-lt10 c = record { out_after = simp (lt-ltb c.args.n 10 (omega arith)); upper_bound = omega arith }

pub bounds-out-at-3 : goal.bounds-out-at-3
bounds-out-at-3 c = simp length-set (omega arith)

pub returns : goal.returns
unfolding decimal
returns c = record { out_after = simp (le-ltb c.args.n 10 (omega arith), add-one); upper_bound = omega arith }
