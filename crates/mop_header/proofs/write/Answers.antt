-- `write`: 11, or the header and then the body.
-- Assumes nothing.
use mathlib.Core.Path.{sym}
use Prim.Native.Nat.{◌+◌, ◌<◌}
use lib.ListN.{length}
use native.Mathlib.Omega.{arith}
use Rattle.mop_header.specs.Header.{head_of, header_length}
use Rattle.mop_header.proofs.Writing.{telegram_short, telegram_written}
use Rattle.mop_header.proofs.write.Goals as goal
use Rattle.mop_header.proofs.write.Goals.{then-out-n-via-then-out-n, then-out-n-via-else-out-n+then-out-n-2}

pub returns-then-out-n : goal.returns-then-out-n
returns-then-out-n c =
    let a = c.args in
    let size = c.length-n.ensures a.block.now in
    let short : length a.out.now < header_length (head_of a.header a.block.now) + length a.body.now =
    elim c.then-out-n.branch [
      | then-out-n-via-then-out-n w ↦ omega (arith, size, w.if-out-n.true)
      | then-out-n-via-else-out-n+then-out-n-2 w ↦ omega (arith, size, w.if-out-n.false, w.if-out-n-2.true)
    ] in
    sym (telegram_short _ _ _ short)

pub write_header-requires : goal.write_header-requires
write_header-requires c =
    let m = c in
    omega (arith, m.length-n.ensures m.args.block.now)

pub returns : goal.returns
returns c =
    let headed = c in
    let m = headed in
    let a = m.args in
    let size = m.length-n.ensures a.block.now in
    telegram_written (head_of a.header a.block.now) a.body.now a.out.now size (omega (arith, size))
    headed.write_header.ensures c.put.ensures
