-- `hanraquin_receive`: the tests of event and state, and then the event.
-- Assumes nothing.
use native.Mathlib.Omega.{arith}
use mathlib.Core.Path.{sym, ap, subst, ◌∙◌}
use Rattle.link_receive.specs.Receive.{Outcome}
use Rattle.c_answer.proofs.Options.{none_behind, some_behind}
use Rattle.c_link.specs.Link.{received_by}
use Rattle.c_link.specs.Private.Small.{SmallResponse}
use Rattle.c_link.proofs.Messages.{response_small}
use Rattle.c_link.proofs.States.{not_three, no_event, no_state, not_taken, at_state}
use Rattle.c_link.proofs.hanraquin_receive.Goals as goal

pub returns-then-event-gt-TIMER : goal.returns-then-event-gt-TIMER
returns-then-event-gt-TIMER c = rw c.refused.ensures (sym (no_event _ _ _ c.if-event-gt-TIMER.true))

pub returns-in_default : goal.returns-in_default
returns-in_default c = rw c.refused-in_default.ensures (sym (no_state _ _ _ (not_three _ c.in_default.ensures.cases)))

pub returns-in_default-state_from : goal.returns-in_default-state_from
returns-in_default-state_from c =
    let s = c in
    rw (c.refused-in_default-state_from.ensures, ← s.in-Some.ensures.cases.same)
    (sym (not_taken _ _ _ (none_behind _ _ c.in_default-state_from.ensures)))

pub of_response-requires : goal.of_response-requires
of_response-requires c = subst (λ (o : Outcome). SmallResponse o.reaction.response) (sym c.receive-step.ensures) (response_small _ _ _)

pub returns : goal.returns
returns c =
    let s = c in
    let state = some_behind _ _ s.in-Some-state_from.ensures in
    rw (c.of_response.ensures, c.words_of.ensures, ← s.in-Some.ensures.cases.same)
    (ap received_by c.receive-step.ensures ∙ rw (state.1, c.event_at.ensures) (sym (at_state _ _ _ (omega arith) state.0)))
