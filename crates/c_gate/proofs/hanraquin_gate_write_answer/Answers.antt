-- `hanraquin_gate_write_answer`: by the answer that kind and number are.
-- Assumes nothing.
use mathlib.Core.Path.{◌≡◌, sym, ap, ◌∙◌}
use mir.Facts.{to_z-of_z}
use Rattle.gate_answers.specs.Answers.{reading_of}
use Rattle.c_answer.specs.Answer.{written_by}
use Rattle.c_gate.specs.Answers.{answer_at}
use Rattle.c_gate.proofs.Answers.{writes}
use Rattle.c_gate.proofs.hanraquin_gate_write_answer.Goals as goal
use Rattle.c_gate.proofs.hanraquin_gate_write_answer.Goals.{After-answer_at}

-- what is known of the answer
known : (s : After-answer_at) →
    (let a = s.args in reading_of s.answer_at.result ≡ answer_at a.kind a.number)
known s =
    let start = s in
    s.answer_at.ensures ∙ ap (answer_at start.args.kind) (to_z-of_z start.ranges.number)

pub returns-in-Ok : goal.returns-in-Ok
returns-in-Ok c =
    let told = c.in-Ok.is in
    let w = c in
    writes _ _ _ (ap reading_of (sym told) ∙ known (goal.at.returns-in-Ok c).After-answer_at) (rw c.of_writing.ensures (ap written_by w.write_answer.ensures))

pub returns-in-Err : goal.returns-in-Err
returns-in-Err c =
    let told = c.in-Err.is in
    writes _ _ _ (ap reading_of (sym told) ∙ known (goal.at.returns-in-Err c).After-answer_at) (rw c.refused.ensures)
