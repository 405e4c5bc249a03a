-- `request_body`: six bytes, and the bytes of the values behind them.
-- Assumes nothing.
use mathlib.Core.Path.{◌≡◌}
use Prim.Native.Nat.{◌/◌, ◌%◌}
use native.Mathlib.Omega.{arith}
use Rattle.mop_centre.proofs.Requests.{body_stored}
use Rattle.mop_centre.proofs.request_body.Goals as goal

pub returns : goal.returns
returns c =
    let a = c.args in
    let rhigh : a.rstart / 256 % 256 ≡ a.rstart / 256 = omega (arith, c.ranges.rstart.fits) in
    let whigh : a.wstart / 256 % 256 ≡ a.wstart / 256 = omega (arith, c.ranges.wstart.fits) in
    rw (c.put_words.ensures, c.put.ensures, c.to_be_bytes.ensures, c.to_be_bytes-2.ensures, rhigh, whigh)
    (body_stored a.rstart a.rcount a.wstart a.values.now _ (omega arith))
