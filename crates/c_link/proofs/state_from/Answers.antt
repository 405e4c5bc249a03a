-- `state_from`: the tests that the first number is a phase and the last a byte, and that the state is not against its buffer.
-- Assumes nothing.
use mathlib.Core.Path.{◌≡◌, sym, ◌∙◌}
use mathlib.Core.Bool.{and-false}
use lib.ListN.{length}
use borrow.Author.Rules.{rules}
use Rattle.c_link.specs.Link.{is_state}
use Rattle.c_link.proofs.States.{is_state_lem, no_phase, no_check}
use Rattle.c_link.proofs.state_from.Goals as goal
use Rattle.c_link.proofs.state_from.Goals.{else-phase-le-LAST_PHASE-via-then-phase-le-LAST_PHASE+then-check-le255+else-not-is_against, else-phase-le-LAST_PHASE-via-then-phase-le-LAST_PHASE+else-check-le255, else-phase-le-LAST_PHASE-via-else-phase-le-LAST_PHASE}

pub returns-then-not-is_against : goal.returns-then-not-is_against
returns-then-not-is_against c =
    let words = c.args.words.now in
    let three : length words ≡ 3 = search rules in
    rw (
      is_state_lem words three c.if-phase-le-LAST_PHASE.true c.if-check-le255.true,
      ← c.is_against.ensures,
      c.if-not-is_against.true,
      c.phase_at.ensures,
    )

pub returns-else-phase-le-LAST_PHASE : goal.returns-else-phase-le-LAST_PHASE
returns-else-phase-le-LAST_PHASE c =
    let words = c.args.words.now in
    elim c.else-phase-le-LAST_PHASE.branch [
      | else-phase-le-LAST_PHASE-via-then-phase-le-LAST_PHASE+then-check-le255+else-not-is_against w ↦
          rw (sym w.is_against.ensures ∙ w.if-not-is_against.false, and-false (is_state words))
      | else-phase-le-LAST_PHASE-via-then-phase-le-LAST_PHASE+else-check-le255 w ↦ rw (no_check words w.if-check-le255.false)
      | else-phase-le-LAST_PHASE-via-else-phase-le-LAST_PHASE w ↦ rw (no_phase words w.if-phase-le-LAST_PHASE.false)
    ]
