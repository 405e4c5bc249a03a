-- `run_takes`: the values that are left, from the byte at 2 * i on, give the whole.
-- Assumes nothing.
use Prim.Native.Nat.{◌+◌, ◌*◌, ◌≤◌}
use mathlib.Core.Path.{◌≡◌}
use lib.ListN.{drop}
use Rattle.base.specs.Words.{words_of}
use Rattle.mop_registers.specs.Runs.{run_takes}
use Rattle.mop_registers.proofs.run_takes.Given as goal

abbrev pub invariant-loop-i : goal.invariant-loop-i
invariant-loop-i l =
    (l.first + l.i ≤ 65536) × (run_takes (l.first + l.i) (words_of (drop (2 * l.i) l.values)) ≡ run_takes l.start (words_of l.values))
