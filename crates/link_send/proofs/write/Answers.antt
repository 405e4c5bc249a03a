-- `write`: the block is framed; the check finds the rest.
-- Assumes nothing.
use borrow.Author.Tests.{le-ltb}
use mathlib.Core.Path.{◌∙◌}
use mathlib.Core.List.{append-nil}
use Rattle.link_frame.specs.Frame.{framing}
use Rattle.link_send.specs.Send.{bytes_of, part_bytes}
use Rattle.link_send.proofs.write.Goals as goal

pub returns-in-Block : goal.returns-in-Block
unfolding bytes_of part_bytes framing
returns-in-Block c = rw (c.in-Block.is, append-nil) (c.frame.ensures ∙ simp (le-ltb _ _ c.requires))
