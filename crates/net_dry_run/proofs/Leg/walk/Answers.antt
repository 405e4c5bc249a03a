-- `walk`: what is left of the journey gives the whole.
-- Assumes nothing.
use mathlib.Core.Path.{◌≡◌, refl}
use native.Mathlib.Omega.{arith}
use Rattle.mop_header.specs.Header.{head_of}
use Rattle.net_hop.specs.Hop.{hop_of}
use Rattle.net_hop.specs.declared.HopAnswer.{HopAnswer}
use Rattle.net_hop.proofs.Hops.{Means, means_as, answered_count}
use Rattle.net_dry_run.proofs.Legs.{leg_goes_on, leg_turns, leg_ends, leg_over}
use Rattle.net_dry_run.proofs.Leg.walk.Goals as goal
use Rattle.net_dry_run.proofs.Leg.walk.Goals.{After-hop}

-- what a hop of the loop says of the journey
meant : (s : After-hop) {x : HopAnswer} → s.hop.result ≡ x →
    (let l = s.args.self.now in let v = s.loop-gone in
    Means l.addresses.now v.tables (head_of v.header l.block.now) l.body.now (hop_of x l.block.now s.hop.new.tables s.hop.new.reply))
meant s e =
    let v = s.loop-gone in
    let w = v.invariant.way in
    means_as _ _ w.set _ _ w.order _ w.known v.reply (omega arith) s.hop.result _ _ _ s.hop.ensures e

pub loop-gone-preserved : goal.loop-gone-preserved
loop-gone-preserved c = leg_goes_on c.loop-gone.invariant (omega arith) (meant (goal.at.loop-gone-preserved c).After-hop c.in-Relayed.is)

pub returns-in-Answered : goal.returns-in-Answered
returns-in-Answered c =
    let told = c.in-Answered.is in
    let most = answered_count _ _ _ _ c.loop-gone.reply c.hop.result c.args.self.now.block.now _ _ c.hop.ensures told in
    (omega (arith, most), leg_turns c.loop-gone.invariant (omega arith) (meant (goal.at.returns-in-Answered c).After-hop told))

pub returns-in-Ended : goal.returns-in-Ended
returns-in-Ended c = leg_ends c.loop-gone.invariant (omega arith) (meant (goal.at.returns-in-Ended c).After-hop c.in-Ended.is)

pub returns : goal.returns
returns c = leg_over c.loop-gone.invariant refl (omega arith)
