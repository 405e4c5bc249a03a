-- `walk`: what is left of the journey gives the whole.
-- Assumes nothing.
use Rattle.mop_header.specs.Header.{head_of}
use Rattle.net_dry_run.proofs.Legs.{Onward}
use Rattle.net_dry_run.proofs.Leg.walk.Given as goal

abbrev pub invariant-loop-gone : goal.invariant-loop-gone
invariant-loop-gone l =
    Onward l.self.addresses.now l.self.places.now l.initial.tables l.before (head_of l.initial.header l.self.block.now) l.self.body.now l.tables l.gone
    (head_of l.header l.self.block.now)
