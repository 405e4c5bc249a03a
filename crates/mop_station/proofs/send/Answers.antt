-- `send`: there is room, so the telegram is written.
-- Assumes nothing.
use Rattle.mop_header.specs.Header.{head_of, telegram_of}
use Rattle.base.proofs.Filling.{fitted_room}
use Rattle.base.specs.Filling.{Filling}
use Rattle.mop_station.proofs.Telegrams.{sent_by}
use mathlib.Core.Path.{◌≡◌, ◌∙◌, ap}
use native.Mathlib.Omega.{arith}
use lib.ListN.{length}
use Rattle.mop_station.proofs.send.Goals as goal

pub returns-in_err-n : goal.returns-in_err-n
returns-in_err-n c =
    let a = c.args in
    let telegram = telegram_of (head_of a.header a.block.now) a.body.now in
    let given = ap (λ (f : Filling). f.given) (c.in_err-n.ensures ∙ fitted_room telegram a.out.now c.requires) in
    let no : ⊥ = cc in
    absurd no

pub returns : goal.returns
returns c =
    let a = c.args in
    let telegram = telegram_of (head_of a.header a.block.now) a.body.now in
    let told = c.in_ok-n.ensures ∙ fitted_room telegram a.out.now c.requires in
    let given = ap (λ (f : Filling). f.given) told in
    let size : c.in_ok-n.n ≡ length telegram = cc in
    sent_by telegram a.out.now (omega (arith, size)) (ap (λ (f : Filling). f.output) told)
