-- `take_telegram`: the step, and then what it sends.
-- Assumes nothing.
use Rattle.std.proofs.lemmas.Result.{err_from_is_err_and}
use Rattle.mop_step.proofs.Rooms.{Fits, answer_places, made_as, fits_as}
use Rattle.mop_station.specs.Station.{sending_by, taking}
use Rattle.mop_step.specs.Step.{Step, StepCall, stepping, step_call_of}
use Rattle.mop_step.specs.declared.StationStep.{StationStep}
use Rattle.std.specs.Prelude.{Result, Ok}
use Rattle.refusal.specs.declared.Refusal.{Refusal}
use Rattle.mop_header.specs.Header.{head_of}
use native.Mathlib.Omega.{arith}
use lib.ListN.{length}
use Rattle.std.proofs.Common.{length-take-le}
use mathlib.Core.Path.{◌≡◌, sym, ◌∙◌, ap}
use Rattle.mop_station.proofs.take_telegram.Goals as goal
use Rattle.mop_station.proofs.take_telegram.Goals.{After-step}

-- what the call says of the step
module _ (s : After-step) where
  abbrev stepped : Result StationStep Refusal → StepCall
  stepped x = step_call_of x s.args.block.now s.step.new.registers s.step.new.reply

  made : {x : Result StationStep Refusal} → s.step.result ≡ x →
      (let a = s.args in
      (stepped x).made
      ≡ stepping a.own (head_of a.header a.block.now) a.body.now a.registers.now (length a.out.now))
  made e = made_as _ _ _ _ _ _ s.step.result _ _ _ s.step.ensures (omega arith) e

  fits : {x : Result StationStep Refusal} → s.step.result ≡ x →
      (let a = s.args in Fits (stepped x).made.stepped a.body.now (length a.out.now))
  fits e = fits_as _ _ _ _ _ _ s.step.result _ _ _ s.step.ensures (omega arith) e

pub returns-in_err-h : goal.returns-in_err-h
unfolding sending_by
returns-in_err-h c =
    let a = c.args in
    let e = err_from_is_err_and c.from_residual.result c.from_residual.ensures.1 in
    rw (e.1, e.2) (ap (λ (x : Step). taking x a.body.now a.out.now) (made (goal.at.returns-in_err-h c).After-step c.in_err-h.was))

pub send-requires : goal.send-requires
send-requires c = fits (goal.at.send-requires c).After-step (c.in_ok-h.was ∙ ap Ok c.in-Relayed.is)

pub slice_bounds-reply-end : goal.slice_bounds-reply-end
slice_bounds-reply-end c =
    omega (arith, answer_places _ _ _ _ _ _ c.step.result _ _ _ c.step.ensures (c.in_ok-h.was ∙ ap Ok c.in-Answered.is))

pub slice_bounds-send-end : goal.slice_bounds-send-end
slice_bounds-send-end c =
    let n = c.in-Answered.n in
    sym (length-take-le n c.step.new.reply
    (omega (arith, answer_places _ _ _ _ _ _ c.step.result _ _ _ c.step.ensures (c.in_ok-h.was ∙ ap Ok c.in-Answered.is))))

pub send-requires-in-Answered : goal.send-requires-in-Answered
send-requires-in-Answered c =
    (fits (goal.at.send-requires-in-Answered c).After-step (c.in_ok-h.was ∙ ap Ok c.in-Answered.is)).0

pub returns-in-Relayed : goal.returns-in-Relayed
unfolding sending_by
returns-in-Relayed c =
    let a = c.args in
    c.send.ensures _ ∙ ap (λ (x : Step). taking x a.body.now a.out.now) (made (goal.at.returns-in-Relayed c).After-step (c.in_ok-h.was ∙ ap Ok c.in-Relayed.is))

pub returns-in-Answered : goal.returns-in-Answered
unfolding sending_by
returns-in-Answered c =
    let a = c.args in
    c.send-in-Answered.ensures _ ∙ ap (λ (x : Step). taking x a.body.now a.out.now) (made (goal.at.returns-in-Answered c).After-step (c.in_ok-h.was ∙ ap Ok c.in-Answered.is))

pub returns-in-NotMine : goal.returns-in-NotMine
unfolding sending_by
returns-in-NotMine c =
    let a = c.args in
    ap (λ (x : Step). taking x a.body.now a.out.now) (made (goal.at.returns-in-NotMine c).After-step (c.in_ok-h.was ∙ ap Ok c.in-NotMine.is))
