-- `write_leg`: what is told, and what is left of the journey, make the whole text.
-- Assumes nothing.
use mathlib.Core.Path.{◌≡◌}
use Rattle.mop_header.specs.Header.{head_of}
use Rattle.net_hop.specs.Tables.{net_of}
use Rattle.net_report.specs.Private.Legs.{telling_from, ToldSoFar}
use Rattle.net_report.proofs.write_leg.Given as goal

abbrev pub invariant-loop-gone : goal.invariant-loop-gone
invariant-loop-gone l =
    ToldSoFar (telling_from l.before l.at l.initial.out (net_of l.addresses l.initial.tables) (head_of l.initial.header l.block) l.body) l.addresses l.tables l.gone l.place l.out (head_of l.header l.block) l.body
    × (l.header.function ≡ l.initial.header.function)
