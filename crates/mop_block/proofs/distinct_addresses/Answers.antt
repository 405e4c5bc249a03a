-- `distinct_addresses`: what is left, with the seen, decides as the whole list does.
-- Assumes nothing.
use mathlib.Core.Path.{sym, ◌∙◌}
use native.Mathlib.Omega.{arith}
use Rattle.mop_block.proofs.Seen.{new_clear, new_next, new_end}
use Rattle.mop_block.proofs.distinct_addresses.Goals as goal

pub loop-a-init : goal.loop-a-init
loop-a-init c = new_clear _

pub returns-then-not-note_address : goal.returns-then-not-note_address
returns-then-not-note_address c =
    let v = c.loop-a in
    let none = sym c.note_address.ensures.value ∙ c.if-not-note_address.true in
    sym (new_next c.args.list.now v.a-index v.seen (omega arith) ∙ rw none) ∙ v.invariant

pub loop-a-preserved : goal.loop-a-preserved
loop-a-preserved c =
    let v = c.loop-a in
    let yes = sym c.note_address.ensures.value ∙ c.if-not-note_address.false in
    rw c.note_address.ensures.seen_after
    (sym (new_next c.args.list.now v.a-index v.seen (omega arith) ∙ rw yes) ∙ v.invariant)

pub returns : goal.returns
returns c =
    let v = c.loop-a in
    sym (new_end c.args.list.now v.a-index v.seen (omega arith)) ∙ v.invariant
