-- `write_doubled`: what is done, and what is left behind the parts so far, make the whole.
-- Assumes nothing.
use Prim.Native.Nat.{◌*◌}
use mathlib.Core.Path.{◌≡◌}
use lib.ListN.{drop}
use Rattle.base.specs.Private.Writing.{writing}
use Rattle.link_frame.specs.Frame.{doubled}
use Rattle.link_frame.proofs.write_doubled.Given as goal

abbrev pub invariant-loop-part : goal.invariant-loop-part
invariant-loop-part l =
    writing l.at (doubled (drop (l.part-index * 16) l.src)) l.out ≡ writing 0 (doubled l.src) l.initial.out
