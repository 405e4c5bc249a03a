-- `byte`: the steps that are left, from the running value on, give the whole.
-- Assumes nothing.
use mathlib.Core.Path.{◌≡◌, sym, ◌∙◌}
use Prim.Native.Nat.{◌*◌, ◌%◌}
use native.Mathlib.Omega.{arith}
use Rattle.crc16.specs.Ccitt.{ccitt_bit, ccitt_byte}
use Rattle.crc16.proofs.Check.{steps_turn, steps_end}
use Rattle.crc16.proofs.ccitt.byte.Goals as goal

pub loop-init : goal.loop-init
unfolding ccitt_byte
loop-init c =
    let up : c.from.result * 256 % 65536 ≡ c.args.b * 256 = omega (arith, c.ranges.b.fits) in
    rw up

pub loop-preserved : goal.loop-preserved
loop-preserved c =
    let v = c.loop in
    rw c.bit-r.ensures (sym (steps_turn ccitt_bit 8 v.counter v.r (omega arith)) ∙ v.invariant)

pub returns : goal.returns
returns c =
    let v = c.loop in
    sym (steps_end ccitt_bit 8 v.counter v.r (omega arith)) ∙ v.invariant
