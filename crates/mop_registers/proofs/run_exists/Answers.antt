-- `run_exists`: what is left of the run gives the whole.
-- Assumes nothing.
use mathlib.Core.Path.{◌≡◌, sym, ◌∙◌}
use native.Mathlib.Omega.{arith}
use Prim.Native.Nat.{◌+◌, ◌-◌}
use Rattle.mop_registers.proofs.Runs.{exists_steps, run_on, run_off, run_over}
use Rattle.mop_registers.proofs.Places.{table_length_lem, place_exists, place_beyond}
use Rattle.mop_registers.proofs.run_exists.Goals as goal

pub loop-number-init : goal.loop-number-init
loop-number-init c =
    let all : c.args.start + c.args.count - c.args.start ≡ c.args.count = omega arith in
    rw all

pub returns-then-place_of-ge-TABLE_LENGTH : goal.returns-then-place_of-ge-TABLE_LENGTH
returns-then-place_of-ge-TABLE_LENGTH c =
    let v = c.loop-number in
    sym (run_off exists_steps v.number (c.args.start + c.args.count) (omega arith) (place_beyond _ (omega (arith, table_length_lem)))) ∙ v.invariant

pub loop-number-preserved : goal.loop-number-preserved
loop-number-preserved c =
    let v = c.loop-number in
    run_on exists_steps v.number (c.args.start + c.args.count) (omega arith) (place_exists _ (omega (arith, table_length_lem))) ∙ v.invariant

pub returns : goal.returns
returns c =
    let v = c.loop-number in
    sym (run_over exists_steps v.number (c.args.start + c.args.count) (omega arith)) ∙ v.invariant
