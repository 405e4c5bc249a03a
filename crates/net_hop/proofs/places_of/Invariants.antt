-- `places_of`: what is left to place gives the whole.
-- Assumes nothing.
use mathlib.Core.Path.{◌≡◌}
use lib.ListN.{length, drop}
use Rattle.net_hop.specs.Hop.{placing, bytes}
use Rattle.net_hop.proofs.places_of.Given as goal

abbrev pub invariant-loop-place : goal.invariant-loop-place
invariant-loop-place l =
    (length l.places ≡ bytes) × (placing l.places l.place (drop l.place l.listed) ≡ placing l.initial.places 0 l.listed)
