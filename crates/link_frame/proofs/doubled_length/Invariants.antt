-- `doubled_length`: the length of the data, and one more for each DLE so far.
-- Assumes nothing.
use Prim.Native.Nat.{◌+◌}
use mathlib.Core.Path.{◌≡◌}
use lib.ListN.{length, take}
use Rattle.std.specs.List.{count_by}
use Rattle.link_frame.specs.Private.Tests.{is_dle}
use Rattle.link_frame.proofs.doubled_length.Given as goal

abbrev pub invariant-loop-b : goal.invariant-loop-b
invariant-loop-b l = l.n ≡ length l.src + count_by is_dle (take l.b-index l.src)
