-- `write_frame`: three stores behind the doubled data make the frame.
-- Assumes nothing.
use native.Mathlib.Omega.{arith}
use lib.ListN.{length-set}
use Rattle.base.proofs.Writing.{same_place}
use Rattle.link_frame.proofs.Framing.{frame_written}
use Rattle.link_frame.proofs.write_frame.Goals as goal

pub bounds-out-at : goal.bounds-out-at
bounds-out-at c = omega (arith, same_place c.write_doubled-at.ensures)

pub overflow_add-out : goal.overflow_add-out
overflow_add-out c = omega (arith, same_place c.write_doubled-at.ensures)

pub bounds-out-at-2 : goal.bounds-out-at-2
bounds-out-at-2 c = simp length-set (omega (arith, same_place c.write_doubled-at.ensures))

pub check_byte-requires : goal.check_byte-requires
check_byte-requires c = omega (arith, same_place c.write_doubled-at.ensures)

pub overflow_add-out-2 : goal.overflow_add-out-2
overflow_add-out-2 c = omega (arith, same_place c.write_doubled-at.ensures)

pub bounds-out-at-3 : goal.bounds-out-at-3
bounds-out-at-3 c = simp length-set (omega (arith, same_place c.write_doubled-at.ensures))

pub overflow_add-result : goal.overflow_add-result
overflow_add-result c = omega (arith, same_place c.write_doubled-at.ensures)

pub returns : goal.returns
returns c =
    let a = c.args in
    let p = c.write_doubled-at in
    rw c.check_byte.ensures (frame_written a.src.now a.out.now p.ensures (omega arith))
