-- `hanraquin_dry_run`: the test of the result, and then the dry run.
-- Assumes nothing.
use mathlib.Core.Path.{sym, ◌∙◌, ap, subst}
use Rattle.net_dry_run.specs.DryRun.{DryRun, run_output}
use Rattle.c_net.specs.Net.{ran_by}
use Rattle.c_net.proofs.Runs.{SmallRun, small_run, bad_result, good_result}
use Rattle.net_journey.specs.Bounded.{most_transmissions}
use borrow.Author.Rules.{rules}
use Prim.Native.Nat.{◌≤◌}
use Rattle.c_net.proofs.hanraquin_dry_run.Goals as goal
use Rattle.c_net.proofs.hanraquin_dry_run.Goals.{In-Ok}

pub returns-then-res-ne3 : goal.returns-then-res-ne3
returns-then-res-ne3 c = rw c.refused.ensures (sym (bad_result _ _ _ _ _ c.if-res-ne3.true))

-- the numbers of a run fit
small : (c : In-Ok) → (c.in-Ok.played.count ≤ most_transmissions) × (c.in-Ok.played.length ≤ run_output)
small c = subst (λ (x : DryRun). SmallRun x.outcome) (sym c.in-Ok.ensures) (small_run _ _ _ _)

pub overflow_cast-played : goal.overflow_cast-played
overflow_cast-played c = let fits = (small (goal.at.overflow_cast-played c).In-Ok).0 in search rules

pub overflow_cast-played-in-Ok : goal.overflow_cast-played-in-Ok
overflow_cast-played-in-Ok c = let fits = (small (goal.at.overflow_cast-played-in-Ok c).In-Ok).1 in search rules

pub returns-in-Ok : goal.returns-in-Ok
returns-in-Ok c =
    let result = c.args.res.now in
    rw (c.copy_from_slice.ensures.after, c.ending_number-ending.ensures)
    (ap (λ (x : DryRun). ran_by x result) c.in-Ok.ensures ∙ sym (good_result _ _ _ _ _ c.if-res-ne3.false))

pub returns-in-Err : goal.returns-in-Err
returns-in-Err c =
    let result = c.args.res.now in
    rw c.refused-in-Err.ensures (ap (λ (x : DryRun). ran_by x result) c.in-Err.ensures ∙ sym (good_result _ _ _ _ _ c.if-res-ne3.false))
