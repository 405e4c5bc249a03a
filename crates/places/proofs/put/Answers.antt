-- `put`: at the end there is no place left, or no byte.
-- Assumes nothing.
use mathlib.Core.Path.{sym, ◌∙◌}
use mathlib.Core.Logic.{inl, inr}
use native.Mathlib.Omega.{arith}
use Rattle.std.specs.Slice.Iter.{iter_rest}
use Rattle.places.proofs.Copies.{sets_beyond, sets_none}
use Rattle.places.proofs.put.Goals as goal

pub returns : goal.returns
returns c =
    let v = c.loop-place in
    let start = v.place-iterator.a.start in
    let left = iter_rest v.place-iterator.b in
    elim c.in-None.ensures.steps [
      | inl step ↦ sym (sets_beyond v.out start left (omega (arith, step.1))) ∙ v.invariant.1
      | inr step ↦ sym (sets_none v.out start left step.1.0) ∙ v.invariant.1
    ]
