-- `route_of`: the stations told so far, and those left from i on, make the whole.
-- Assumes nothing.
use mathlib.Core.Path.{◌≡◌}
use Prim.Native.Nat.{◌+◌, ◌≤◌}
use lib.ListN.{length, drop}
use lib.Seq.{sets}
use Rattle.mop_block.specs.Block.{stations}
use Rattle.mop_block.specs.Zipper.{zeros}
use Rattle.mop_header.specs.Header.{head_of}
use Rattle.mop_centre.specs.Request.{max_route}
use Rattle.mop_centre.proofs.route_of.Given as goal

abbrev pub invariant-loop-i : goal.invariant-loop-i
invariant-loop-i l =
    let b = (head_of l.header l.block).block in
    (length l.route ≡ max_route) × (l.place + length (stations (drop l.i b)) ≤ max_route)
    × (sets l.route l.place (stations (drop l.i b)) ≡ sets (zeros max_route) 0 (stations b))
