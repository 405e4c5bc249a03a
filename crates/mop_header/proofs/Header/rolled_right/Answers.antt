-- `rolled_right`: the entry at the place before becomes the first; before place 0 comes the last.
-- Assumes nothing.
use mathlib.Core.Path.{◌∙◌, ap}
use native.Mathlib.Omega.{arith}
use Rattle.mop_header.specs.Header.{head, rolled_right}
use Rattle.mop_header.proofs.Turns.{for_each, right_more, right_first, none_right}
use Rattle.mop_header.proofs.Header.rolled_right.Goals as goal

pub returns-then-at-gt0 : goal.returns-then-at-gt0
unfolding rolled_right
returns-then-at-gt0 c = for_each (λ slice.
    let h = c.args.self in
    c.turned.ensures slice ∙ ap (head h.function h.control h.form) (right_more h.count h.turn slice c.place-at.ensures.value (omega arith)))

pub returns-then-self-eq0 : goal.returns-then-self-eq0
unfolding rolled_right
returns-then-self-eq0 c = for_each (λ slice.
    let h = c.args.self in
    ap (head h.function h.control h.form) (none_right h.count h.turn slice c.if-self-eq0.true))

pub returns-else-self-eq0 : goal.returns-else-self-eq0
unfolding rolled_right
returns-else-self-eq0 c = for_each (λ slice.
    let h = c.args.self in
    c.turned-else-self-eq0.ensures slice ∙ ap (head h.function h.control h.form) (right_first h.count h.turn slice c.place-at.ensures.value (omega arith)))
