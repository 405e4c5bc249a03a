-- `rolled_left`: the entry at the next place becomes the first; behind the last place comes 0.
-- Assumes nothing.
use mathlib.Core.Path.{◌∙◌, ap}
use native.Mathlib.Omega.{arith}
use Rattle.mop_header.specs.Header.{head, rolled_left}
use Rattle.mop_header.proofs.Turns.{for_each, left_more, left_last}
use Rattle.mop_header.proofs.Header.rolled_left.Goals as goal

pub returns-then-self-at-gt1 : goal.returns-then-self-at-gt1
unfolding rolled_left
returns-then-self-at-gt1 c = for_each (λ slice.
    let h = c.args.self in
    c.turned.ensures slice ∙ ap (head h.function h.control h.form) (left_more h.count h.turn slice c.place-at.ensures.value (omega arith)))

pub returns-else-self-at-gt1 : goal.returns-else-self-at-gt1
unfolding rolled_left
returns-else-self-at-gt1 c = for_each (λ slice.
    let h = c.args.self in
    c.turned-else-self-at-gt1.ensures slice ∙ ap (head h.function h.control h.form) (left_last h.count h.turn slice c.place-at.ensures.value (omega arith)))
