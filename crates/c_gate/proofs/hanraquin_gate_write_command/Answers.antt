-- `hanraquin_gate_write_command`: writing, with the answer as a number.
-- Assumes nothing.
use mathlib.Core.Path.{ap}
use Rattle.c_answer.specs.Answer.{written_by}
use Rattle.c_gate.specs.Commands.{write_command_call}
use Rattle.c_gate.proofs.hanraquin_gate_write_command.Goals as goal

pub returns : goal.returns
unfolding write_command_call
returns c = rw c.of_writing.ensures (ap written_by c.write_command.ensures)
