-- `read_out`: the parts of the reply, where they stand in the body.
-- Assumes nothing.
use native.Mathlib.Omega.{arith}
use Rattle.mop_centre.specs.Reply.{read_out}
use Rattle.mop_centre.proofs.Replies.{header_most}
use Rattle.mop_centre.proofs.read_out.Goals as goal

pub overflow_add-result : goal.overflow_add-result
overflow_add-result c =
    let a = c.args in
    omega (arith, c.length.ensures a.block.now, header_most a.header a.block.now)

pub returns : goal.returns
unfolding read_out
returns c =
    let a = c.args in
    rw (c.route_of.ensures, c.word_of.ensures, c.length.ensures a.block.now)
