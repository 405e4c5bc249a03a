-- `store_words`: what is stored, and what the bytes that are left hold, make the whole.
-- Assumes nothing.
use mathlib.Core.Path.{◌≡◌}
use lib.ListN.{length}
use lib.Seq.{sets}
use Rattle.base.specs.Words.{words_of}
use Rattle.words.proofs.store_words.Given as goal

abbrev pub invariant-loop-place : goal.invariant-loop-place
invariant-loop-place l =
    let places = l.place-iterator.a in
    let pairs = l.place-iterator.b in
    (places.end ≡ length l.table) × (pairs.size ≡ 2) × (sets l.table places.start (words_of pairs.rest.now) ≡ sets l.initial.table l.at (words_of l.bytes))
