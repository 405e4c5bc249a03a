-- `judge`: the block, then the mark.
-- Assumes nothing.
use mathlib.Core.Path.{sym, ◌∙◌, ap}
use Rattle.mop_header.specs.Header.{mark_agrees}
use Rattle.mop_reader.specs.Reading.{sound}
use Rattle.mop_reader.proofs.Steps.{judged_block, judged_mark, judged_sound, made_beside, made_read}
use Rattle.mop_reader.proofs.judge.Goals as goal

pub returns-then-not-good_for : goal.returns-then-not-good_for
returns-then-not-good_for c tg rest e = sym (judged_block _ _ (sym c.good_for.ensures ∙ c.if-not-good_for.true))

pub returns-then-not-is_marked : goal.returns-then-not-is_marked
returns-then-not-is_marked c tg rest e =
    let made = c.new-header.ensures in
    let test = c in
    let good = sym test.good_for.ensures ∙ test.if-not-good_for.false in
    let mark = ap mark_agrees (sym (made_beside _ _ _ _ _ made)) ∙ sym c.is_marked.ensures ∙ c.if-not-is_marked.true in
    sym (judged_mark _ _ good mark)

pub returns : goal.returns
returns c tg rest e =
    let made = c.new-header.ensures in
    let test = c in
    let good = sym test.good_for.ensures ∙ test.if-not-good_for.false in
    let mark = ap mark_agrees (sym (made_beside _ _ _ _ _ made)) ∙ sym c.is_marked.ensures ∙ c.if-not-is_marked.false in
    ap sound (made_read _ _ _ _ _ made tg rest e) ∙ sym (judged_sound _ _ good mark)
