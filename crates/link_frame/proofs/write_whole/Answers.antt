-- `write_whole`: the copy is the part.
-- Assumes nothing.
use native.Mathlib.Omega.{arith}
use Rattle.base.proofs.Writing.{part_written}
use Rattle.link_frame.proofs.write_whole.Goals as goal

pub returns : goal.returns
returns c = part_written c.args.from c.args.part.now c.args.out.now (omega arith) (omega arith) c.put.ensures
