-- `put`: what is copied, and the bytes that are left, make the whole.
-- Assumes nothing.
use mathlib.Core.Path.{◌≡◌}
use lib.ListN.{length}
use lib.Seq.{sets}
use Rattle.std.specs.Slice.Iter.{iter_rest}
use Rattle.places.proofs.put.Given as goal

abbrev pub invariant-loop-place : goal.invariant-loop-place
invariant-loop-place l =
    let places = l.place-iterator.a in
    (places.end ≡ length l.out) × (sets l.out places.start (iter_rest l.place-iterator.b) ≡ sets l.initial.out l.at l.bytes)
