-- `hanraquin_gate_read_answer`: the test of the place, and then by what is read.
-- Assumes nothing.
use mathlib.Core.Path.{ap, sym, ◌∙◌}
use mir.Facts.{to_z-of_z}
use mir.Syntax.{w32}
use Rattle.gate_answers.specs.Answers.{reading_of}
use Rattle.c_gate.proofs.Answers.{no_place, tells, tells_refusal}
use Rattle.c_gate.proofs.hanraquin_gate_read_answer.Goals as goal

pub returns-then-number-ne1 : goal.returns-then-number-ne1
returns-then-number-ne1 c = rw c.refused.ensures (sym (no_place _ _ c.if-number-ne1.true))

pub returns-in-Ok : goal.returns-in-Ok
returns-in-Ok c =
    let read = c in
    let told = ap reading_of (sym c.in-Ok.is) in
    tells _ _ read.if-number-ne1.false (told ∙ read.read_answer.ensures) c.kind_of.ensures
    (to_z-of_z {w = w32} {z = c.number_of.result} (record { sfits = c.number_of.type_inv }) ∙ c.number_of.ensures)

pub returns-in-Err : goal.returns-in-Err
returns-in-Err c =
    let read = c in
    let told = ap reading_of (sym c.in-Err.is) in
    tells_refusal _ _ read.if-number-ne1.false (told ∙ read.read_answer.ensures) c.refused-in-Err.ensures
