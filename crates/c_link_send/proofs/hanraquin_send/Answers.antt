-- `hanraquin_send`: the tests of event and numbers, and then the event.
-- Assumes nothing.
use native.Mathlib.Omega.{arith}
use mathlib.Core.Path.{sym, ap, subst, ◌∙◌}
use Rattle.link_send.specs.Send.{SendOutcome}
use Rattle.c_answer.proofs.Options.{none_behind, some_behind}
use Rattle.c_link_send.specs.Send.{at_sender_by}
use Rattle.c_link_send.specs.Private.Small.{SmallResponse}
use Rattle.c_link_send.proofs.Endings.{send_small}
use Rattle.c_link_send.proofs.States.{not_nine, no_event, no_sender, at_sender_lem}
use Rattle.c_link_send.proofs.hanraquin_send.Goals as goal

pub returns-then-event-gt-START : goal.returns-then-event-gt-START
returns-then-event-gt-START c = rw c.refused.ensures (sym (no_event _ _ _ _ _ c.if-event-gt-START.true))

pub returns-in_default : goal.returns-in_default
returns-in_default c = rw c.refused-in_default.ensures (sym (no_sender _ _ _ _ _ (not_nine _ c.in_default.ensures.cases)))

pub returns-in_default-sender_from : goal.returns-in_default-sender_from
returns-in_default-sender_from c =
    let s = c in
    rw (c.refused-in_default-sender_from.ensures, ← s.in-Some.ensures.cases.same)
    (sym (no_sender _ _ _ _ _ (none_behind _ _ c.in_default-sender_from.ensures)))

pub of_answer-requires : goal.of_answer-requires
of_answer-requires c =
    subst (λ (o : SendOutcome). SmallResponse o.reaction.response) (sym c.send-step.ensures) (send_small _ _ _ _ _)

pub returns : goal.returns
returns c =
    let s = c in
    let state = some_behind _ _ s.in-Some-sender_from.ensures in
    rw (c.of_answer.ensures, c.words_of.ensures, ← s.in-Some.ensures.cases.same)
    (ap at_sender_by c.send-step.ensures ∙ rw (state.1, c.event_at.ensures) (sym (at_sender_lem _ _ _ _ _ (omega arith) state.0)))
