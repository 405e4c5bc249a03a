-- `run_exists`: what is left of the run gives the whole.
-- Assumes nothing.
use Prim.Native.Nat.{◌+◌, ◌-◌}
use mathlib.Core.Path.{◌≡◌}
use Rattle.mop_registers.specs.Runs.{run_exists}
use Rattle.mop_registers.proofs.run_exists.Given as goal

abbrev pub invariant-loop-number : goal.invariant-loop-number
invariant-loop-number l = run_exists l.number (l.start + l.count - l.number) ≡ run_exists l.start l.count
