-- `good_block`: what was seen, and what is left from i on, decide as the whole block does. What is left falls.
-- Assumes nothing.
use Prim.Native.Nat.{◌≤◌, ◌-◌}
use mathlib.Core.Path.{◌≡◌}
use lib.ListN.{drop}
use Rattle.mop_block.specs.Block.{good_block}
use Rattle.mop_block.proofs.Pass.{good_from}
use Rattle.mop_block.proofs.good_block.Given as goal

abbrev pub invariant-loop-i : goal.invariant-loop-i
invariant-loop-i l =
    (l.ends ≤ l.i) × (l.i ≤ l.n) × (good_from l.zero l.ends l.last l.seen (drop l.i l.b) ≡ good_block l.b)

abbrev pub decreases-loop-i : goal.decreases-loop-i
decreases-loop-i l = l.n - l.i
