-- `act`: by the function and the entry behind the own one.
-- Assumes nothing.
use Rattle.mop_step.proofs.Steps.{to_destination, to_relay, reply_to_relay}
use Rattle.mop_step.specs.Step.{Step, lending}
use mathlib.Core.Path.{sym, ◌∙◌, ap}
use Rattle.mop_step.proofs.act.Goals as goal

pub returns-then-next-eq0 : goal.returns-then-next-eq0
returns-then-next-eq0 c =
    let at-if1 = c in
    let a = at-if1.args in
    c.answer.ensures ∙ sym (ap (λ (s : Step). lending s a.registers.now a.reply.now) (to_destination _ _ _ _ at-if1.in-Request.is (sym at-if1.next.ensures ∙ at-if1.if-next-eq0.true)))

pub returns-else-next-eq0 : goal.returns-else-next-eq0
returns-else-next-eq0 c =
    let a = c.args in
    c.relay.ensures _ _ ∙ sym (ap (λ (s : Step). lending s a.registers.now a.reply.now) (to_relay _ _ _ _ c.in-Request.is (λ e. c.if-next-eq0.false (c.next.ensures ∙ e))))

pub returns-in-Reply : goal.returns-in-Reply
returns-in-Reply c =
    let a = c.args in
    c.relay-in-Reply.ensures _ _ ∙ sym (ap (λ (s : Step). lending s a.registers.now a.reply.now) (reply_to_relay _ _ _ _ _ c.in-Reply.is))
