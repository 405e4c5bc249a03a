-- `judge_runs`: the tests in their order.
-- Assumes nothing.
use mathlib.Core.Path.{sym, ◌∙◌}
use Rattle.mop_step.proofs.Bodies.{no_read_run, no_write_run, not_writable, out_of_range, runs_accepted}
use Rattle.mop_step.proofs.judge_runs.Goals as goal
use Rattle.mop_step.proofs.judge_runs.Goals.{then-not-run_exists-via-then-not-run_exists, then-not-run_exists-via-else-not-run_exists+then-not-run_exists-2}

pub returns-then-not-run_exists : goal.returns-then-not-run_exists
returns-then-not-run_exists c =
    elim c.then-not-run_exists.branch [
      | then-not-run_exists-via-then-not-run_exists w ↦ sym (no_read_run _ _ _ _ _ (sym c.run_exists.ensures ∙ w.if-not-run_exists.true))
      | then-not-run_exists-via-else-not-run_exists+then-not-run_exists-2 w ↦
          sym (no_write_run _ _ _ _ _ (sym w.run_exists-else-not-run_exists.ensures ∙ w.if-not-run_exists-2.true))
    ]

pub returns-then-not-run_may_write : goal.returns-then-not-run_may_write
returns-then-not-run_may_write c =
    let read = sym c.run_exists.ensures ∙ c.if-not-run_exists.false in
    let write = sym c.run_exists-else-not-run_exists.ensures ∙ c.if-not-run_exists-2.false in
    sym (not_writable _ _ _ _ _ read write (sym c.run_may_write.ensures ∙ c.if-not-run_may_write.true))

pub returns-then-not-run_takes : goal.returns-then-not-run_takes
returns-then-not-run_takes c =
    let read = sym c.run_exists.ensures ∙ c.if-not-run_exists.false in
    let write = sym c.run_exists-else-not-run_exists.ensures ∙ c.if-not-run_exists-2.false in
    let may = sym c.run_may_write.ensures ∙ c.if-not-run_may_write.false in
    sym (out_of_range _ _ _ _ _ read write may (sym c.run_takes.ensures ∙ c.if-not-run_takes.true))

pub returns : goal.returns
returns c =
    let read = sym c.run_exists.ensures ∙ c.if-not-run_exists.false in
    let write = sym c.run_exists-else-not-run_exists.ensures ∙ c.if-not-run_exists-2.false in
    let may = sym c.run_may_write.ensures ∙ c.if-not-run_may_write.false in
    sym (runs_accepted _ _ _ _ _ read write may (sym c.run_takes.ensures ∙ c.if-not-run_takes.false))
