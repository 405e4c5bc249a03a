-- `answer`: the refusal of the body, or what is carried out.
-- Assumes nothing.
use Rattle.std.proofs.lemmas.Result.{err_from_is_err_and}
use mathlib.Core.Path.{sym}
use borrow.Author.Rules.{rules}
use Rattle.mop_step.specs.Step.{answering, lending}
use Rattle.mop_step.proofs.answer.Goals as goal

pub returns-in_err-judge_body : goal.returns-in_err-judge_body
unfolding answering lending
returns-in_err-judge_body c =
    let e = err_from_is_err_and c.from_residual.result c.from_residual.ensures.1 in
    rw (e.1, e.2, ← c.in_err-judge_body.ensures)

pub carry_out-requires : goal.carry_out-requires
carry_out-requires c = record { body_value = sym (c.in_ok-judge_body.ensures); registers_len = search rules }

pub returns : goal.returns
returns c = rw (← c.in_ok-judge_body.ensures) c.carry_out.ensures
