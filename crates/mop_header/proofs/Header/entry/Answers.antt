-- `entry`: before the end of the slice, or around it.
-- Assumes nothing.
use mathlib.Core.Path.{◌∙◌}
use native.Mathlib.Omega.{arith}
use Rattle.mop_header.proofs.Turns.{entry_none, entry_more, entry_past}
use Rattle.mop_header.proofs.Header.entry.Goals as goal

pub returns-then-count-place : goal.returns-then-count-place
returns-then-count-place c =
    let a = c.args in
    entry_none a.self.count a.self.turn a.block.now a.place (omega arith)

pub returns-then-place-left : goal.returns-then-place-left
returns-then-place-left c =
    let a = c.args in
    c.entry_at.ensures ∙ entry_more a.self.count a.self.turn a.block.now c.place-at.ensures.value a.place (omega arith)

pub returns-else-place-left : goal.returns-else-place-left
returns-else-place-left c =
    let a = c.args in
    c.entry_at-else-place-left.ensures ∙ entry_past a.self.count a.self.turn a.block.now c.place-at.ensures.value a.place (omega arith) (omega arith)
