-- `relayed_header`: by the function.
-- Assumes nothing.
use Rattle.mop_step.specs.Step.{relayed}
use Rattle.mop_header.proofs.Turns.{at_slice}
use mathlib.Core.Path.{sym, ◌∙◌}
use Rattle.mop_step.proofs.relayed_header.Goals as goal

pub returns-in-Request : goal.returns-in-Request
unfolding relayed
returns-in-Request c = at_slice c.rolled_left.ensures c.args.block.now ∙ sym (rw c.in-Request.is)

pub returns-in-Reply : goal.returns-in-Reply
unfolding relayed
returns-in-Reply c = c.sent_back.ensures ∙ sym (rw c.in-Reply.is)
