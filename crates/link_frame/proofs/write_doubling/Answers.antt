-- `write_doubling`: what is done, and what is left from the index on, make the whole.
-- Assumes nothing.
use mathlib.Core.Path.{ap}
use native.Mathlib.Numerals.{add-one}
use native.Mathlib.Omega.{arith}
use lib.ListN.{length, length-set}
use Rattle.base.proofs.Writing.{writing_step, writing_end, same_place}
use Rattle.link_frame.proofs.Doubling.{Twice, Once, none_left, next_dle, next_other}
use Rattle.link_frame.proofs.write_doubling.Goals as goal
use Rattle.link_frame.proofs.write_doubling.Goals.{Else-b-eq-DLE, Then-b-eq-DLE, then-b-eq-DLE, else-b-eq-DLE}

-- what is left at a DLE and at another byte
dle : (c : Then-b-eq-DLE) → Twice c.args.part.now c.loop-b.b-index
dle c = let a = c in next_dle a.args.part.now a.loop-b.b-index c.loop-b-test.true c.if-b-eq-DLE.true

other : (c : Else-b-eq-DLE) → Once c.args.part.now c.loop-b.b-index
other c = let a = c in next_other a.args.part.now a.loop-b.b-index c.loop-b-test.true c.if-b-eq-DLE.false

pub bounds-out-at : goal.bounds-out-at
bounds-out-at c = omega (arith, same_place c.loop-b.invariant, ap length (dle c).is)

pub bounds-out-at-then-b-eq-DLE : goal.bounds-out-at-then-b-eq-DLE
bounds-out-at-then-b-eq-DLE c =
    simp length-set (omega (arith, same_place c.loop-b.invariant, ap length (dle c).is))

pub bounds-out-at-else-b-eq-DLE : goal.bounds-out-at-else-b-eq-DLE
bounds-out-at-else-b-eq-DLE c = omega (arith, same_place c.loop-b.invariant, ap length (other c).is)

pub loop-b-preserved : goal.loop-b-preserved
loop-b-preserved c =
    let v = c.loop-b in
    elim c.if-b-eq-DLE.branch [
      | then-b-eq-DLE w ↦
          rw (w.out-is, w.at-is, add-one v.at)
          (writing_step (next_dle c.args.part.now v.b-index c.loop-b-test.true w.if-b-eq-DLE.true) v.at v.out v.invariant)
      | else-b-eq-DLE w ↦
          rw (w.out-is, w.at-is)
          (writing_step (next_other c.args.part.now v.b-index c.loop-b-test.true w.if-b-eq-DLE.false) v.at v.out v.invariant)
    ]

pub returns : goal.returns
returns c =
    let v = c.loop-b in
    writing_end (none_left c.args.part.now v.b-index c.loop-b-test.false) v.at v.out v.invariant
