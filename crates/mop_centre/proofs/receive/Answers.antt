-- `receive`: the first entry, then the length of the body.
-- Assumes nothing.
use mathlib.Core.Path.{◌≡◌, sym, ◌∙◌, ap}
use native.Mathlib.Omega.{arith}
use borrow.Author.Tests.{eqb-true}
use lib.ListN.{drop}
use Rattle.mop_block.specs.Block.{first}
use Rattle.mop_header.specs.Header.{head_of, block_start}
use Rattle.mop_reader.specs.declared.Reader.TheVariants.{Centre}
use Rattle.mop_reader.proofs.ReadBack.{sound_room}
use Rattle.mop_centre.specs.Reply.{ReplyReading, unread}
use Rattle.base.proofs.Places.{rest_from}
use Rattle.mop_centre.proofs.Replies.{block_room, body_from, route_room, station_read, miscounted_read, counted_read}
use Rattle.mop_centre.proofs.receive.Goals as goal
use Rattle.mop_centre.proofs.receive.Goals.{After-first}

-- the first entry is the one of the block in the telegram
entry : (f : After-first) →
    (let a = f.args in
    f.first.result ≡ first (head_of a.header (drop (block_start a.header.form) a.telegram.now)).block)
entry f = rw (rest_from f.args.telegram.now f.block_start.ensures) at f.first.ensures

pub slice_bounds-block-count : goal.slice_bounds-block-count
slice_bounds-block-count c = omega (arith, block_room _ _ c.requires, c.block_start.ensures)

pub slice_bounds-block-start : goal.slice_bounds-block-start
slice_bounds-block-start c = slice_bounds-block-count c

pub slice_bounds-body-count : goal.slice_bounds-body-count
slice_bounds-body-count c =
    let long = c.length.ensures (drop (block_start c.args.header.form) c.args.telegram.now) in
    omega (arith, sound_room Centre _ _ c.requires, long)

pub slice_bounds-body-start : goal.slice_bounds-body-start
slice_bounds-body-start c = slice_bounds-body-count c

pub returns-then-first-ne0 : goal.returns-then-first-ne0
unfolding unread
returns-then-first-ne0 c =
    let other = station_read c.args.telegram.now c.requires (λ e. c.if-first-ne0.true (entry (goal.at.returns-then-first-ne0 c).After-first ∙ e)) in
    sym (ap (λ (r : ReplyReading). r.answer) other)

pub returns-then-not-is_counted : goal.returns-then-not-is_counted
unfolding unread
returns-then-not-is_counted c =
    let tg = c.args.telegram.now in
    let mine = sym (entry (goal.at.returns-then-not-is_counted c).After-first) ∙ c.if-first-ne0.false in
    let behind = body_from tg _ (c.length.ensures (drop (block_start c.args.header.form) tg)) in
    let short = sym c.is_counted.ensures ∙ c.if-not-is_counted.true in
    sym (ap (λ (r : ReplyReading). r.answer) (miscounted_read tg c.requires mine behind short))

pub read_out-requires : goal.read_out-requires
read_out-requires c =
    let tg = c.args.telegram.now in
    record {
      in_bounds = omega (arith, eqb-true, sym c.is_counted.ensures ∙ c.if-not-is_counted.false);
      block_len_bound = rw (rest_from tg c.block_start.ensures) (route_room tg c.requires);
    }

pub returns : goal.returns
returns c =
    let tg = c.args.telegram.now in
    let mine = sym (entry (goal.at.returns c).After-first) ∙ c.if-first-ne0.false in
    let behind = body_from tg _ (c.length.ensures (drop (block_start c.args.header.form) tg)) in
    let long = sym c.is_counted.ensures ∙ c.if-not-is_counted.false in
    rw (rest_from tg c.block_start.ensures) at c.read_out.ensures
    ∙ sym (ap (λ (r : ReplyReading). r.answer) (counted_read tg c.requires mine behind long))
