-- `doubled_length`: each DLE makes the data as it is sent one byte longer.
-- Assumes nothing.
use mathlib.Core.Path.{ap}
use native.Mathlib.Omega.{arith}
use lib.Seq.{take_all}
use Rattle.std.specs.List.{count_by}
use Rattle.link_frame.specs.Private.Tests.{is_dle}
use Rattle.link_frame.proofs.Doubling.{dles_counted, length_doubled}
use Rattle.link_frame.proofs.doubled_length.Goals as goal

pub returns : goal.returns
returns c =
    let src = c.args.src.now in
    let all = ap (count_by is_dle) (take_all c.loop-b.b-index src c.loop-b-test.false) in
    omega (arith, length_doubled src, dles_counted src, all)
