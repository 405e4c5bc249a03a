-- `hanraquin_gate_receive`: the tests of event and state, and then the event.
-- Assumes nothing.
use native.Mathlib.Omega.{arith}
use mathlib.Core.Path.{sym, ap, ◌∙◌}
use Rattle.c_gate.specs.Bus.{received_by}
use Rattle.c_answer.proofs.Options.{none_behind, some_behind}
use Rattle.c_gate.proofs.States.{fits_parts, state_parts, no_event, no_state, at_state}
use Rattle.c_gate.proofs.hanraquin_gate_receive.Goals as goal

pub returns-then-event-gt-TIMER : goal.returns-then-event-gt-TIMER
returns-then-event-gt-TIMER c = rw c.refused.ensures (sym (no_event _ _ _ _ _ c.if-event-gt-TIMER.true))

pub returns-in_default : goal.returns-in_default
returns-in_default c = rw c.refused-in_default.ensures (sym (no_state _ _ _ _ _ (none_behind _ _ c.in_default.ensures)))

pub put_state-requires : goal.put_state-requires
put_state-requires c = (fits_parts _ (state_parts _ (some_behind _ _ c.in-Some.ensures).0).0).seven

pub returns : goal.returns
returns c =
    let state = some_behind _ _ c.in-Some.ensures in
    rw (c.of_answer.ensures, c.put_state.ensures)
    (ap received_by c.receive-step.ensures ∙ rw (state.1, c.event_at.ensures) (sym (at_state _ _ _ _ _ (omega arith) state.0)))
