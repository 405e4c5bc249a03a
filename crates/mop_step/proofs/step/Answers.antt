-- `step`: the own address and the table, then the first entry.
-- Assumes nothing.
use Rattle.mop_step.proofs.Stations.{station_table}
use Rattle.mop_step.proofs.Steps.{no_station, for_another, for_this}
use Rattle.mop_step.specs.Step.{Step, lending}
use mathlib.Core.Path.{sym, ◌∙◌, ap}
use Rattle.mop_step.proofs.step.Goals as goal

pub returns-then-not-is_station : goal.returns-then-not-is_station
unfolding lending
returns-then-not-is_station c =
    let a = c.args in
    sym (ap (λ (s : Step). lending s a.registers.now a.reply.now) (no_station _ _ _ _ _ (sym c.is_station.ensures ∙ c.if-not-is_station.true)))

pub returns-then-first-own : goal.returns-then-first-own
unfolding lending
returns-then-first-own c =
    let a = c.args in
    let set = sym c.is_station.ensures ∙ c.if-not-is_station.false in
    sym (ap (λ (s : Step). lending s a.registers.now a.reply.now) (for_another _ _ _ _ _ set (λ e. c.if-first-own.true (c.first.ensures ∙ e))))

pub act-requires : goal.act-requires
act-requires c = station_table _ _ (sym c.is_station.ensures ∙ c.if-not-is_station.false)

pub returns : goal.returns
returns c =
    let at_first = c in
    let a = at_first.args in
    let set = sym at_first.is_station.ensures ∙ at_first.if-not-is_station.false in
    c.act.ensures ∙ sym (ap (λ (s : Step). lending s a.registers.now a.reply.now) (for_this _ _ _ _ _ set (sym at_first.first.ensures ∙ c.if-first-own.false)))
