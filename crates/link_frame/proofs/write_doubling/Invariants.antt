-- `write_doubling`: what is done, and what is left from the index on, make the whole.
-- Assumes nothing.
use mathlib.Core.Path.{◌≡◌}
use lib.ListN.{drop}
use Rattle.base.specs.Private.Writing.{writing}
use Rattle.link_frame.specs.Frame.{doubled}
use Rattle.link_frame.proofs.write_doubling.Given as goal

abbrev pub invariant-loop-b : goal.invariant-loop-b
invariant-loop-b l = writing l.at (doubled (drop l.b-index l.part)) l.out ≡ writing l.from (doubled l.part) l.initial.out
