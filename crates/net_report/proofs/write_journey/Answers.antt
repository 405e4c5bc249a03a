-- `write_journey`: the leg out, and the leg home with the reply.
-- Assumes nothing.
use mathlib.Core.Path.{refl, sym, ◌∙◌}
use native.Mathlib.Omega.{arith}
use lib.ListN.{drop}
use lib.Seq.{length-take-le}
use Rattle.mop_header.specs.Header.{block_start}
use Rattle.mop_reader.specs.declared.Reader.TheVariants.{Station}
use Rattle.mop_reader.proofs.ReadBack.{sound_room}
use Rattle.mop_header.proofs.Lengths.{start_within}
use Rattle.net_hop.proofs.Ways.{sets_out}
use Rattle.net_report.proofs.Telling.{journey_told}
use Rattle.net_report.proofs.write_journey.Goals as goal

pub slice_bounds-block-count : goal.slice_bounds-block-count
slice_bounds-block-count c =
    let h = c.args.header in
    let start = start_within h (drop (block_start h.form) c.args.telegram.now) c.block_start.ensures in
    omega (arith, start, sound_room Station _ _ c.requires.telegram_value)

pub slice_bounds-block-start : goal.slice_bounds-block-start
slice_bounds-block-start c = slice_bounds-block-count c

pub slice_bounds-body-count : goal.slice_bounds-body-count
slice_bounds-body-count c =
    let long = c.length.ensures (drop (block_start c.args.header.form) c.args.telegram.now) in
    omega (arith, long, sound_room Station _ _ c.requires.telegram_value)

pub slice_bounds-body-start : goal.slice_bounds-body-start
slice_bounds-body-start c = slice_bounds-body-count c

pub write_leg-requires : goal.write_leg-requires
write_leg-requires c =
    let a = c.args in
    let p = c.requires in record {
      on_its_way = sets_out a.header a.telegram.now a.addresses.now a.tables.now p.telegram_value p.tables_value c.block_start.ensures c.length.ensures refl;
      at_bound = omega arith;
      report_output_in_bounds = p.report_output_in_bounds;
    }

pub slice_bounds-back-end : goal.slice_bounds-back-end
slice_bounds-back-end c =
    sym (length-take-le c.in-Continue.turn.length c.write_leg.new.reply (rw c.in-Continue.is at c.write_leg.ensures).0)

pub write_leg-requires-in-Continue : goal.write_leg-requires-in-Continue
write_leg-requires-in-Continue c =
    let p = rw c.in-Continue.is at c.write_leg.ensures in
    record {
      on_its_way = p.3.way;
      at_bound = p.3.room;
      report_output_in_bounds = omega (arith, c.write_leg.auto.out, c.requires.report_output_in_bounds);
    }

pub returns-in-Break : goal.returns-in-Break
returns-in-Break c =
    let a = c.args in
    let p = c.requires in
    let e = rw c.in-Break.is at c.write_leg.ensures in
    journey_told a.header a.telegram.now a.addresses.now a.tables.now p.telegram_value
    c.block_start.ensures c.length.ensures a.out.now p.report_output_in_bounds e

pub returns-in-Break-write_leg : goal.returns-in-Break-write_leg
returns-in-Break-write_leg c =
    let a = c.args in
    let p = c.requires in
    let o = rw c.in-Continue.is at c.write_leg.ensures in
    let h = rw c.in-Break-write_leg.is at c.write_leg-in-Continue.ensures in
    journey_told a.header a.telegram.now a.addresses.now a.tables.now p.telegram_value
    c.block_start.ensures c.length.ensures a.out.now p.report_output_in_bounds (h.0 ∙ o.3.whole, h.1)

pub unreachable-requires : goal.unreachable-requires
unreachable-requires c =
    let o = rw c.in-Continue.is at c.write_leg.ensures in
    let h = rw c.in-Continue-write_leg.is at c.write_leg-in-Continue.ensures in
    let back = o.2 in
    let request = h.1 in
    cc
