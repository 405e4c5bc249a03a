-- `places_of`: what is left to place gives the whole.
-- Assumes nothing.
use mathlib.Core.Path.{◌∙◌}
use native.Mathlib.Omega.{arith}
use lib.ListN.{length-set}
use Rattle.std.proofs.lemmas.List.{take_min}
use Rattle.net_hop.specs.Tables.{max_stations}
use Rattle.net_hop.specs.Hop.{places_of}
use Rattle.net_hop.proofs.Places.{place_step, place_none}
use Rattle.net_hop.proofs.places_of.Goals as goal

pub loop-place-preserved : goal.loop-place-preserved
loop-place-preserved c =
    let v = c.loop-place in
    (simp length-set v.invariant.0, place_step _ v.places v.place v.invariant.1 (omega arith))

pub returns : goal.returns
unfolding places_of
returns c =
    let v = c.loop-place in
    place_none _ v.places v.place v.invariant.1 (omega arith)
    ∙ rw (c.min.ensures, take_min max_stations c.args.addresses.now)
