-- `run_may_write`: what is left of the run gives the whole.
-- Assumes nothing.
use Prim.Native.Nat.{◌+◌, ◌-◌}
use mathlib.Core.Path.{◌≡◌}
use Rattle.mop_registers.specs.Runs.{run_may_write}
use Rattle.mop_registers.proofs.run_may_write.Given as goal

abbrev pub invariant-loop-number : goal.invariant-loop-number
invariant-loop-number l = run_may_write l.number (l.start + l.count - l.number) ≡ run_may_write l.start l.count
