-- `state_from`: the tests that there are seven numbers, that they fit, and that they are those of their state.
-- Assumes nothing.
use mathlib.Core.Path.{◌≡◌, sym, ap, ◌∙◌}
use mathlib.Core.Bool.{true}
use Rattle.c_gate.specs.Bus.{fits, is_state, state_at}
use Rattle.c_gate.proofs.States.{not_seven, not_fitting, same_is, state_compared}
use Rattle.c_gate.proofs.state_from.Goals as goal
use Rattle.c_gate.proofs.state_from.Goals.{After-eq}

fitting : (s : After-eq) → fits s.args.words.now ≡ true
fitting s = sym (ap fits s.in_ok-words.ensures.cases.same) ∙ sym s.is_fitting.ensures ∙ s.if-not-is_fitting.false

-- the state is that of the numbers, and what the last test shows
state : (s : After-eq) → s.state_at-state.result ≡ state_at s.args.words.now
state s = s.state_at-state.ensures ∙ ap state_at s.in_ok-words.ensures.cases.same

tested : (s : After-eq) → s.eq.result ≡ is_state s.args.words.now
tested s =
    let words = s.args.words.now in
    s.eq.ensures
    ∙ rw s.in_ok-words.ensures.cases.same (same_is words s.words_of.result ∙ state_compared words (fitting s) (state s) s.words_of.ensures)

pub returns-in_err-words : goal.returns-in_err-words
returns-in_err-words c = rw (c.from_residual.ensures, not_fitting _ (not_seven _ c.in_err-words.ensures.cases))

pub returns-then-not-is_fitting : goal.returns-then-not-is_fitting
returns-then-not-is_fitting c =
    let none = sym (ap fits c.in_ok-words.ensures.cases.same) ∙ sym c.is_fitting.ensures ∙ c.if-not-is_fitting.true in
    rw (not_fitting _ none)

pub returns-then-eq : goal.returns-then-eq
returns-then-eq c =
    let s = (goal.at.returns-then-eq c).After-eq in
    rw (sym (tested s) ∙ c.if-eq.true, state s)

pub returns-else-eq : goal.returns-else-eq
returns-else-eq c =
    let s = (goal.at.returns-else-eq c).After-eq in
    rw (sym (tested s) ∙ c.if-eq.false)
