-- `put_entries`: what is put, and what is left from entry i on, make the whole.
-- Assumes nothing.
use Prim.Native.Nat.{◌+◌, ◌-◌}
use mathlib.Core.Path.{◌≡◌}
use lib.ListN.{drop}
use lib.Seq.{sets}
use Rattle.mop_header.specs.Header.{entries}
use Rattle.mop_header.proofs.put_entries.Given as goal

abbrev pub invariant-loop-i : goal.invariant-loop-i
invariant-loop-i l =
    sets l.out (l.at + (l.i - l.from)) (drop l.i (entries l.end l.block)) ≡ sets l.initial.out l.at (drop l.from (entries l.end l.block))
