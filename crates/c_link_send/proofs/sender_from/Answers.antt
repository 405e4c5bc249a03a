-- `sender_from`: the tests of phase, priority and half in turn. The check of a half is narrowed without loss.
-- Assumes nothing.
use mathlib.Core.Path.{◌≡◌, sym, ◌∙◌}
use lib.ListN.{length}
use borrow.Author.Rules.{rules}
use Rattle.c_link_send.proofs.States.{half_byte, half_words, no_phase, no_priority, no_half, is_sender_lem, sender_read}
use Rattle.c_link_send.proofs.sender_from.Goals as goal
use Rattle.c_link_send.proofs.sender_from.Goals.{else-sending-le5-via-then-sending-le5+then-priority-le1+else-is_half, else-sending-le5-via-then-sending-le5+else-priority-le1, else-sending-le5-via-else-sending-le5}

pub overflow_cast-half : goal.overflow_cast-half
overflow_cast-half c =
    search (rules, half_byte _ (half_words c.args.words.now) (sym c.is_half.ensures ∙ c.if-is_half.true))

pub returns-then-is_half : goal.returns-then-is_half
returns-then-is_half c =
    let s = c in
    let words = s.args.words.now in
    let nine : length words ≡ 9 = search rules in
    rw (
      is_sender_lem words nine s.if-sending-le5.true s.if-priority-le1.true (sym s.is_half.ensures ∙ s.if-is_half.true),
      ← sender_read words nine s.phase_at.ensures s.priority_at.ensures c.send_phase_at.ensures,
    )

pub returns-else-sending-le5 : goal.returns-else-sending-le5
returns-else-sending-le5 c =
    let words = c.args.words.now in
    let nine : length words ≡ 9 = search rules in
    elim c.else-sending-le5.branch [
      | else-sending-le5-via-then-sending-le5+then-priority-le1+else-is_half w ↦
          rw (no_half words nine (sym w.is_half.ensures ∙ w.if-is_half.false))
      | else-sending-le5-via-then-sending-le5+else-priority-le1 w ↦ rw (no_priority words w.if-priority-le1.false)
      | else-sending-le5-via-else-sending-le5 w ↦ rw (no_phase words w.if-sending-le5.false)
    ]
