-- `remarked`: the mark goes by the function and the first entry.
-- Assumes nothing.
use mathlib.Core.Path.{◌∙◌, ap}
use Rattle.mop_header.specs.Header.{head, entries, mark_byte, with_mark, remarked}
use Rattle.mop_block.specs.Block.{rolled}
use Rattle.mop_header.specs.declared.Form.{Form}
use Rattle.mop_header.proofs.Header.remarked.Goals as goal

pub returns : goal.returns
unfolding remarked
returns c =
    let a = c.args in
    let h = a.self in
    let mark = c.mark_of-mark.ensures ∙ ap (mark_byte h.function) c.first.ensures in
    ap (λ (m : Form). head h.function h.control m (rolled h.turn (entries h.count a.block.now))) (c.with_mark.ensures ∙ ap (with_mark h.form) mark)
