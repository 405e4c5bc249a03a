-- `count_dles`: the count so far.
-- Assumes nothing.
use Prim.Native.Nat.{◌≤◌}
use mathlib.Core.Path.{◌≡◌}
use lib.ListN.{take}
use Rattle.std.specs.List.{count_by}
use Rattle.link_frame.specs.Private.Tests.{is_dle}
use Rattle.link_frame.proofs.count_dles.Given as goal

abbrev pub invariant-loop-b : goal.invariant-loop-b
invariant-loop-b l = (l.n ≤ l.b-index) × (l.n ≡ count_by is_dle (take l.b-index l.part))
