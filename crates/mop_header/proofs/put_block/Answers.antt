-- `put_block`: the two parts make the block.
-- Assumes nothing.
use mathlib.Core.Path.{◌∙◌}
use Rattle.mop_header.proofs.Turns.{parts_put}
use Rattle.mop_header.proofs.put_block.Goals as goal

pub returns : goal.returns
returns c =
    let e = c in
    let a = e.args in
    c.put_entries-2.ensures
    ∙ rw e.put_entries.ensures
    (parts_put a.header.count a.header.turn a.block.now a.out.now a.at e.place-first.ensures.value e.place-first.ensures.upper_bound)
