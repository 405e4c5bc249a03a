-- `hanraquin_write_request`: the request, with the answer as a number.
-- Assumes nothing.
use mathlib.Core.Path.{ap}
use Rattle.c_answer.specs.Answer.{written_by}
use Rattle.c_mop.specs.Centre.{write_request_call}
use Rattle.c_mop.proofs.hanraquin_write_request.Goals as goal

pub returns : goal.returns
unfolding write_request_call
returns c = rw c.of_writing.ensures (ap written_by c.write_request.ensures)
