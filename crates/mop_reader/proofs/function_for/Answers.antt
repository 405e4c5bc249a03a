-- `function_for`: everybody takes replies, and a station requests too.
-- Assumes nothing.
use native.Mathlib.Omega.{arith}
use Rattle.mop_reader.specs.Reading.{allowed}
use Rattle.mop_reader.proofs.Readers.{reply_taken, neither_taken}
use Rattle.mop_reader.proofs.function_for.Goals as goal

pub returns-in_default-eq224 : goal.returns-in_default-eq224
returns-in_default-eq224 c = rw (c.in_default-eq224.is-1, reply_taken c.args.reader)

pub returns-in-Station-eq96 : goal.returns-in-Station-eq96
unfolding allowed
returns-in-Station-eq96 c = rw (c.in-Station-eq96.is-0, c.in-Station-eq96.is-1)

pub returns-in_default : goal.returns-in_default
unfolding allowed
returns-in_default c = rw (c.in_default.is-0, c.in_default.is-1)

pub returns-in_default-2 : goal.returns-in_default-2
returns-in_default-2 c = rw (neither_taken c.args.reader c.args.byte (λ e. omega arith) (λ e. omega arith))
