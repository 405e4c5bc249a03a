-- `is_marked`: the mark against the function and the first entry.
-- Assumes nothing.
use mathlib.Core.Path.{◌∙◌, ap}
use Rattle.mop_header.specs.Header.{mark_byte, mark_is, mark_agrees}
use Rattle.mop_header.proofs.Header.is_marked.Goals as goal

pub returns : goal.returns
unfolding mark_agrees
returns c =
    let h = c.args.self in
    let mark = c.mark_of.ensures ∙ ap (mark_byte h.function) c.first.ensures in
    c.has_mark.ensures ∙ ap (mark_is h.form) mark
