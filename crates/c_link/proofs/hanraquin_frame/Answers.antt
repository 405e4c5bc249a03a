-- `hanraquin_frame`: framing, with the answer as a number.
-- Assumes nothing.
use mathlib.Core.Path.{ap}
use Rattle.c_answer.specs.Answer.{written_by}
use Rattle.c_link.specs.Link.{frame_call}
use Rattle.c_link.proofs.hanraquin_frame.Goals as goal

pub returns : goal.returns
unfolding frame_call
returns c = rw c.of_writing.ensures (ap written_by c.frame.ensures)
