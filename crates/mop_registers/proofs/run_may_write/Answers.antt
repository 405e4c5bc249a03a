-- `run_may_write`: what is left of the run gives the whole.
-- Assumes nothing.
use mathlib.Core.Path.{◌≡◌, sym, ◌∙◌}
use native.Mathlib.Omega.{arith}
use Prim.Native.Nat.{◌+◌, ◌-◌}
use Rattle.mop_registers.proofs.Runs.{write_steps, run_on, run_off, run_over}
use Rattle.mop_registers.proofs.run_may_write.Goals as goal

pub loop-number-init : goal.loop-number-init
loop-number-init c =
    let all : c.args.start + c.args.count - c.args.start ≡ c.args.count = omega arith in
    rw all

pub returns-then-not-may_write : goal.returns-then-not-may_write
returns-then-not-may_write c =
    let v = c.loop-number in
    sym (run_off write_steps v.number (c.args.start + c.args.count) (omega arith) (sym c.may_write.ensures ∙ c.if-not-may_write.true)) ∙ v.invariant

pub loop-number-preserved : goal.loop-number-preserved
loop-number-preserved c =
    let v = c.loop-number in
    run_on write_steps v.number (c.args.start + c.args.count) (omega arith) (sym c.may_write.ensures ∙ c.if-not-may_write.false) ∙ v.invariant

pub returns : goal.returns
returns c =
    let v = c.loop-number in
    sym (run_over write_steps v.number (c.args.start + c.args.count) (omega arith)) ∙ v.invariant
