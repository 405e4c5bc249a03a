-- `write_entries`: what is written, and what is left from i on, make the whole.
-- Assumes nothing.
use mathlib.Core.Path.{◌≡◌}
use lib.ListN.{drop}
use Prim.Native.Nat.{◌+◌, ◌*◌, ◌≤◌}
use Rattle.base.specs.Private.Writing.{writing}
use Rattle.mop_header.specs.Header.{head_of}
use Rattle.net_report.specs.Text.{hex_bytes}
use Rattle.net_report.proofs.write_entries.Given as goal

abbrev pub invariant-loop-i : goal.invariant-loop-i
invariant-loop-i l =
    (l.place ≤ l.at + 3 * l.i)
    × (writing l.place (hex_bytes (drop l.i (head_of l.header l.block).block)) l.out ≡ writing l.at (hex_bytes (head_of l.header l.block).block) l.initial.out)
