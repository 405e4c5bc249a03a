-- `write`: each return is a case of what writing gives.
-- Assumes nothing.
use mathlib.Core.Path.{sym, ◌∙◌}
use Rattle.gate_telegram.proofs.Cases.{writing_bad, writing_long, writing_short, writing_room}
use Rattle.gate_telegram.proofs.write.Goals as goal

pub returns-then-are_bad : goal.returns-then-are_bad
returns-then-are_bad c = sym (writing_bad _ _ _ _ (sym c.are_bad.ensures ∙ c.if-are_bad.true))

pub returns-then-n-gt-MAX_DATA : goal.returns-then-n-gt-MAX_DATA
returns-then-n-gt-MAX_DATA c = sym (writing_long _ _ _ _ (sym c.are_bad.ensures ∙ c.if-are_bad.false) c.if-n-gt-MAX_DATA.true)

pub returns-then-out-n : goal.returns-then-out-n
returns-then-out-n c =
    sym (writing_short _ _ _ _ (sym c.are_bad.ensures ∙ c.if-are_bad.false) c.if-n-gt-MAX_DATA.false c.if-out-n.true)

pub returns : goal.returns
returns c =
    c.write_telegram.ensures
    ∙ sym (writing_room _ _ _ _ (sym c.are_bad.ensures ∙ c.if-are_bad.false) c.if-n-gt-MAX_DATA.false c.if-out-n.false)
