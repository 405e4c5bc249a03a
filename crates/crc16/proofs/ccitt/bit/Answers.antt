-- `bit`: the test whether a bit falls off the top decides.
-- Assumes nothing.
use borrow.Author.Tests.{le-leb, lt-leb}
use Rattle.crc16.specs.Ccitt.{ccitt_bit}
use Rattle.crc16.proofs.ccitt.bit.Goals as goal

pub returns-then-check-ge32768 : goal.returns-then-check-ge32768
unfolding ccitt_bit
returns-then-check-ge32768 c = simp (le-leb _ _ c.if-check-ge32768.true)

pub returns-else-check-ge32768 : goal.returns-else-check-ge32768
unfolding ccitt_bit
returns-else-check-ge32768 c = simp (lt-leb _ _ c.if-check-ge32768.false)
