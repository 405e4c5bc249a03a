-- `byte`: the steps that are left, from the running value on, give the whole.
-- Assumes nothing.
use mathlib.Core.Path.{◌≡◌}
use Prim.Native.Nat.{◌-◌}
use Rattle.crc16.specs.Check.{steps}
use Rattle.crc16.specs.Ccitt.{ccitt_bit, ccitt_byte}
use Rattle.crc16.proofs.ccitt.byte.Given as goal

abbrev pub invariant-loop : goal.invariant-loop
invariant-loop l = steps ccitt_bit (8 - l.counter) l.r ≡ ccitt_byte l.check l.b
