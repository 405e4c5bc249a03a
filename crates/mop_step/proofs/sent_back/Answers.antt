-- `sent_back`: rolled, then marked.
-- Assumes nothing.
use Rattle.mop_header.proofs.Turns.{at_slice}
use Rattle.mop_header.specs.Header.{remarked, sent_back}
use mathlib.Core.Path.{◌∙◌, ap}
use Rattle.mop_step.proofs.sent_back.Goals as goal

pub returns : goal.returns
unfolding sent_back
returns c = c.remarked.ensures ∙ ap remarked (at_slice c.rolled_right.ensures c.args.block.now)
