-- `write_entries`: what is written, and what is left from i on, make the whole. What is left falls.
-- Assumes nothing.
use mathlib.Core.Path.{refl}
use Rattle.base.proofs.Writing.{writing_call, writing_end}
use Rattle.net_report.proofs.Lines.{hex_next, hex_end}
use native.Mathlib.Omega.{arith}
use Rattle.mop_header.specs.Header.{head_of}
use Rattle.net_report.proofs.write_entries.Goals as goal

pub loop-i-init : goal.loop-i-init
loop-i-init c = (omega arith, refl)

pub loop-i-preserved : goal.loop-i-preserved
loop-i-preserved c =
    let v = c.loop-i in
    let block = (head_of c.args.header c.args.block.now).block in
    let p = c.write_byte-place in
    let next = hex_next block v.i c.entry.result c.entry.ensures (omega (arith, c.entry_count-i-end.ensures c.args.block.now)) in
    (omega (arith, p.ensures.upper_bound), writing_call next v.place v.out p.ensures.out_after v.invariant.1)

pub returns : goal.returns
returns c =
    let v = c.loop-i in
    let block = (head_of c.args.header c.args.block.now).block in
    let all = c.entry_count-i-end.ensures c.args.block.now in
    record { out_after = writing_end (hex_end block v.i (omega (arith, all))) v.place v.out v.invariant.1; upper_bound = omega (arith, all) }
