-- `put_state`: each place gets its number, and then all are those of the state.
-- Assumes nothing.
use mathlib.Core.Path.{◌≡◌, ◌∙◌}
use native.Mathlib.Omega.{arith}
use borrow.Author.Rules.{rules}
use lib.ListN.{length, get_or, length-set}
use Rattle.std.proofs.lemmas.List.Edits.{fill_by_more}
use Rattle.c_gate.proofs.Bits.{same_places}
use Rattle.c_gate.proofs.put_state.Goals as goal

pub loop-place-init : goal.loop-place-init
loop-place-init c = (c.requires, λ k h. absurd (omega arith))

pub loop-place-preserved : goal.loop-place-preserved
loop-place-preserved c =
    let v = c.loop-place in
    let numbers = c.words_of-numbers.result in (
      length-set v.words v.place _ ∙ v.invariant.0,
      fill_by_more (λ k. get_or numbers k 0) v.words v.place 0 (omega (arith, v.invariant.0, c.loop-place-test.true)) v.invariant.1,
    )

pub returns : goal.returns
returns c =
    let v = c.loop-place in
    let numbers = c.words_of-numbers.result in
    let seven : length numbers ≡ 7 = search rules in
    same_places 0 7 v.invariant.0 seven (λ i h. v.invariant.1 i (omega (arith, h, c.loop-place-test.false))) ∙ c.words_of-numbers.ensures
