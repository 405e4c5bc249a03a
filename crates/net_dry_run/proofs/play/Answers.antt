-- `play`: the block, and the body behind the header; where the first leg ends, or from where it turns back.
-- Assumes nothing.
use Rattle.net_dry_run.proofs.Legs.{run_ends, whole_run}
use Rattle.net_dry_run.specs.Private.Legs.{of_summary}
use Rattle.net_dry_run.specs.DryRun.{Outcome, leaves}
use Rattle.net_hop.proofs.Ways.{sets_out}
use Rattle.mop_reader.proofs.ReadBack.{sound_room}
use Rattle.mop_header.proofs.Lengths.{start_within}
use Rattle.mop_reader.specs.declared.Reader.TheVariants.{Station}
use Rattle.mop_header.specs.Header.{block_start}
use lib.ListN.{drop}
use lib.Seq.{length-take-le}
use native.Mathlib.Omega.{arith}
use Prim.Native.Nat.{ℕ}
use mathlib.Core.List.{List}
use mathlib.Core.Path.{◌∙◌, sym, ap, ap₂}
use Rattle.net_dry_run.proofs.play.Goals as goal

pub slice_bounds-leg-count : goal.slice_bounds-leg-count
slice_bounds-leg-count c =
    let h = c.args.header in
    let start = start_within h (drop (block_start h.form) c.args.telegram.now) c.block_start.ensures in
    omega (arith, start, sound_room Station _ _ c.requires.telegram_value)

pub slice_bounds-leg-start : goal.slice_bounds-leg-start
slice_bounds-leg-start c = slice_bounds-leg-count c

pub slice_bounds-leg-count-2 : goal.slice_bounds-leg-count-2
slice_bounds-leg-count-2 c =
    let long = c.length.ensures (drop (block_start c.args.header.form) c.args.telegram.now) in
    omega (arith, long, sound_room Station _ _ c.requires.telegram_value)

pub slice_bounds-leg-start-2 : goal.slice_bounds-leg-start-2
slice_bounds-leg-start-2 c = slice_bounds-leg-count-2 c

pub walk-stop-requires : goal.walk-stop-requires
walk-stop-requires c =
    let a = c.args in
    sets_out a.header a.telegram.now a.addresses.now a.tables.now c.requires.telegram_value c.requires.tables_value
    c.block_start.ensures c.length.ensures c.places_of-places.ensures

pub slice_bounds-home-end : goal.slice_bounds-home-end
slice_bounds-home-end c = sym (length-take-le c.in-Continue.n c.walk-stop.new.reply (rw c.in-Continue.is at c.walk-stop.ensures).0)

pub go_home-requires : goal.go_home-requires
go_home-requires c =
    let p = (rw c.in-Continue.is at c.walk-stop.ensures).1 in
    record { begins = p.onward; is_reply = p.back }

pub returns-in-Break-clause-played : goal.returns-in-Break-clause-played
returns-in-Break-clause-played c =
    let a = c.args in
    let ended = c.end.ensures in
    ap₂ (λ (o : Outcome) (out : List ℕ). leaves o c.walk-stop.new.tables out) ended.result_value ended.out_after
    ∙ run_ends (rw c.in-Break.is at c.walk-stop.ensures)
    ∙ whole_run a.header a.telegram.now a.addresses.now a.tables.now c.requires.telegram_value c.requires.tables_value c.block_start.ensures c.length.ensures

pub returns-in-Continue-clause-played : goal.returns-in-Continue-clause-played
returns-in-Continue-clause-played c =
    let a = c.args in
    c.go_home.ensures
    ∙ ap of_summary (sym (rw c.in-Continue.is at c.walk-stop.ensures).1.whole)
    ∙ whole_run a.header a.telegram.now a.addresses.now a.tables.now c.requires.telegram_value c.requires.tables_value c.block_start.ensures c.length.ensures
