-- `store_words`: what is stored, and what the bytes that are left hold, make the whole.
-- Assumes nothing.
use mathlib.Core.Logic.{inl, inr}
use native.Mathlib.Omega.{arith}
use lib.ListN.{length-set}
use Rattle.words.proofs.Storing.{store_step, no_place, no_pair}
use Rattle.words.proofs.store_words.Goals as goal

pub loop-place-preserved : goal.loop-place-preserved
loop-place-preserved c =
    let v = c.loop-place in
    let places = v.place-iterator.a in
    let left = v.place-iterator.b.rest.now in
    let step = c.in-Some.ensures.steps in (
      simp length-set (omega (arith, step)),
      omega (arith, step),
      rw step.0.1.1 (store_step v.table places.start left v.invariant.2 c.in-Some.pair.now c.next.new.self.b.rest.now step.1.1.0 (omega (arith, step)) c.word_of.ensures step.0.1.2),
    )

pub returns : goal.returns
returns c =
    let v = c.loop-place in
    let places = v.place-iterator.a in
    let left = v.place-iterator.b.rest.now in
    elim c.in-None.ensures.steps [
      | inl step ↦ no_place v.table places.start left v.invariant.2 (omega (arith, step.1))
      | inr step ↦ no_pair v.table places.start left v.invariant.2 (omega (arith, step.1))
    ]
