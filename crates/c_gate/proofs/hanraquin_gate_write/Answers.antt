-- `hanraquin_gate_write`: writing, with the answer as a number.
-- Assumes nothing.
use mathlib.Core.Path.{ap}
use Rattle.c_answer.specs.Answer.{written_by}
use Rattle.c_gate.specs.Bus.{write_call}
use Rattle.c_gate.proofs.hanraquin_gate_write.Goals as goal

pub returns : goal.returns
unfolding write_call
returns c = rw c.of_writing.ensures (ap written_by c.write.ensures)
