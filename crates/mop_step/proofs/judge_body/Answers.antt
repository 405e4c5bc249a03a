-- `judge_body`: the length, then the runs.
-- Assumes nothing.
use mathlib.Core.Path.{sym, ◌∙◌, ap}
use native.Mathlib.Omega.{arith}
use lib.ListN.{length, length-drop}
use Rattle.base.proofs.Places.{take_rest}
use Rattle.mop_step.proofs.Bodies.{short_body, wrong_length, right_length}
use Rattle.mop_step.proofs.judge_body.Goals as goal

pub returns-in_default : goal.returns-in_default
returns-in_default c = sym (short_body _ c.in_default.len_below)

pub returns-then-values-wcount : goal.returns-then-values-wcount
returns-then-values-wcount c =
    let body = c.args.body.now in
    sym (wrong_length _ (λ e. c.if-values-wcount.true (omega (arith, ap length (take_rest 6 body), length-drop 6 body))))

pub returns : goal.returns
returns c =
    let body = c.args.body.now in
    (rw (c.word_of-rstart.ensures, c.word_of-wstart.ensures, take_rest 6 body) at c.judge_runs.ensures)
    ∙ sym (right_length body (omega (arith, c.if-values-wcount.false, ap length (take_rest 6 body), length-drop 6 body)))
