-- `write_doubled`: what is done, and what is left behind the parts so far, make the whole.
-- Assumes nothing.
use Prim.Native.Nat.{◌/◌}
use mathlib.Core.Path.{◌≡◌, ◌∙◌}
use native.Mathlib.Omega.{arith}
use lib.ListN.{length}
use Rattle.base.proofs.Writing.{writing_step, writing_call, same_place}
use Rattle.link_frame.proofs.Doubling.{next_part}
use Rattle.link_frame.proofs.write_doubled.Goals as goal

pub write_part-at-requires : goal.write_part-at-requires
write_part-at-requires c =
    let v = c.loop-part in
    let src = c.args.src.now in
    let e = next_part 16 (length src / 16) v.part-index src (omega arith) in
    rw c.as_chunks.ensures.front (omega (arith, same_place (writing_step e v.at v.out v.invariant)))

pub loop-part-preserved : goal.loop-part-preserved
loop-part-preserved c =
    let v = c.loop-part in
    let src = c.args.src.now in
    let p = c.write_part-at in
    let e = next_part 16 (length src / 16) v.part-index src (omega arith) in
    writing_call e v.at v.out (p.ensures ∙ rw c.as_chunks.ensures.front) v.invariant

pub returns : goal.returns
returns c =
    let v = c.loop-part in
    let src = c.args.src.now in
    let all : v.part-index ≡ length src / 16 = omega arith in
    c.write_doubling.ensures ∙ rw (c.as_chunks.ensures.back, ← all) v.invariant
