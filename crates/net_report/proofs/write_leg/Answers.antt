-- `write_leg`: what is told, and what is left of the journey, make the whole text.
-- Assumes nothing.
use Prim.Native.Nat.{◌≤◌}
use mathlib.Core.Path.{◌≡◌, refl, sym, ◌∙◌}
use native.Mathlib.Omega.{arith}
use lib.ListN.{length}
use Rattle.mop_header.specs.Header.{head_of}
use Rattle.mop_step.specs.Step.{max_reply}
use Rattle.net_journey.specs.Bounded.{most_transmissions}
use Rattle.net_hop.specs.Hop.{hop_of}
use Rattle.net_hop.specs.declared.HopAnswer.{HopAnswer}
use Rattle.net_hop.proofs.Hops.{Means, means_as, answered_count}
use Rattle.net_report.proofs.Telling.{few_entries, told_over, told_end, told_on}
use Rattle.net_report.proofs.write_leg.Goals as goal
use Rattle.net_report.proofs.write_leg.Goals.{After-hop}

-- a hop finds room for a reply
enough : (c : After-hop) → max_reply ≤ length c.loop-gone.reply
enough c = omega arith

-- what the hop means
means : (c : After-hop) {x : HopAnswer} → c.hop.result ≡ x →
    (let v = c.loop-gone in let a = c.args in let r = c.hop.new in
    Means a.addresses.now v.tables (head_of v.header a.block.now) a.body.now (hop_of x a.block.now r.tables r.reply))
means c e =
    let v = c.loop-gone in
    let a = c.args in
    let r = c.hop.new in
    let w = v.invariant.0.way in
    means_as a.addresses.now v.tables w.set (head_of v.header a.block.now) a.body.now w.order c.places_of-places.result c.places_of-places.ensures
    v.reply (enough c) c.hop.result a.block.now r.tables r.reply c.hop.ensures e

pub loop-gone-init : goal.loop-gone-init
loop-gone-init c =
    let p = c.requires in
    (record { way = p.on_its_way; room = p.at_bound; whole = refl }, refl)

pub write_line-place-requires-clause-block_len_bound : goal.write_line-place-requires-clause-block_len_bound
write_line-place-requires-clause-block_len_bound c = few_entries c.loop-gone.invariant.0.way

pub write_line-place-requires-2-clause-block_len_bound : goal.write_line-place-requires-2-clause-block_len_bound
write_line-place-requires-2-clause-block_len_bound c = few_entries c.loop-gone.invariant.0.way

pub loop-gone-preserved : goal.loop-gone-preserved
loop-gone-preserved c =
    let w = c.write_line-place.ensures in
    let p = means (goal.at.loop-gone-preserved c).After-hop c.in-Relayed.is in
    (told_on c.loop-gone.invariant.0 w.out_after w.upper_bound (omega arith) p.goes, p.function ∙ c.loop-gone.invariant.1)

pub returns-in-Answered : goal.returns-in-Answered
returns-in-Answered c =
    let v = c.loop-gone in
    let w = c.write_line-place.ensures in
    let r = c.hop.new in
    let told = c.in-Answered.is in
    let p = means (goal.at.returns-in-Answered c).After-hop told in
    let most = answered_count c.places_of-places.result (head_of v.header c.args.block.now) c.args.body.now v.tables v.reply c.hop.result c.args.block.now r.tables r.reply c.hop.ensures told in
    (omega (arith, most), sym v.invariant.1 ∙ p.request, p.back, told_on v.invariant.0 w.out_after w.upper_bound (omega arith) p.goes)

pub returns-in-Ended : goal.returns-in-Ended
returns-in-Ended c =
    let w = c.write_line-place.ensures in
    let x = c.write_closing.ensures in
    told_end c.loop-gone.invariant.0 w.out_after w.upper_bound (omega arith) (means (goal.at.returns-in-Ended c).After-hop c.in-Ended.is) x.out_after x.upper_bound

pub returns : goal.returns
returns c =
    let w = c.write_line-place-2.ensures in
    let x = c.write_closing-2.ensures in
    let all : c.loop-gone.gone ≡ most_transmissions = omega arith in
    told_over (rw all at c.loop-gone.invariant.0) w.out_after w.upper_bound (omega arith) x.out_after x.upper_bound
