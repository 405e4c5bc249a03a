-- `put_bits`: each place gets its number, and then all are those of the levels or edges.
-- Assumes nothing.
use mathlib.Core.Path.{◌≡◌, ◌∙◌}
use native.Mathlib.Omega.{arith}
use borrow.Author.Rules.{rules}
use lib.ListN.{length, get_or, length-set}
use Rattle.std.proofs.lemmas.List.Edits.{fill_by_more}
use Rattle.c_gate.specs.Commands.{bit_numbers}
use Rattle.c_gate.proofs.Bits.{length_numbers, number_at, same_places}
use Rattle.c_gate.proofs.put_bits.Goals as goal

pub loop-place-init : goal.loop-place-init
loop-place-init c = (c.requires, λ k h. absurd (omega arith))

pub loop-place-preserved : goal.loop-place-preserved
loop-place-preserved c =
    let v = c.loop-place in
    let bits = c.args.bits in (
      length-set v.words v.place _ ∙ v.invariant.0,
      rw (number_at bits v.place)
          (fill_by_more (λ k. get_or (bit_numbers bits) k 0) v.words v.place 0 (omega (arith, v.invariant.0, c.loop-place-test.true)) v.invariant.1),
    )

pub returns : goal.returns
returns c =
    let v = c.loop-place in
    let bits = c.args.bits in
    let ten : length bits ≡ 10 = search rules in
    same_places 0 10 v.invariant.0 (length_numbers bits ∙ ten) (λ i h. v.invariant.1 i (omega (arith, h, c.loop-place-test.false)))
