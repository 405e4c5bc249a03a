-- `send`: the two refusals, or the turn with what it writes.
-- Assumes nothing.
use mathlib.Core.Path.{sym, ◌∙◌}
use Rattle.link_send.proofs.Room.{send_misset, send_long, send_turn}
use Rattle.link_send.proofs.Refusals.{sound}
use Rattle.link_send.proofs.send.Goals as goal

pub returns-then-is_misset : goal.returns-then-is_misset
returns-then-is_misset c = send_misset _ _ _ _ _ (sym c.is_misset.ensures ∙ c.if-is_misset.true) c.refuse.ensures

pub returns-then-src-gt-MAX_DATA : goal.returns-then-src-gt-MAX_DATA
returns-then-src-gt-MAX_DATA c =
    let test = c in
    send_long _ _ _ _ _ (sym test.is_misset.ensures ∙ test.if-is_misset.false) c.if-src-gt-MAX_DATA.true c.refuse-then-src-gt-MAX_DATA.ensures

pub returns : goal.returns
returns c =
    let plan = c in
    let test = plan in
    let good = sym test.is_misset.ensures ∙ test.if-is_misset.false in
    send_turn _ _ _ _ _ good (sound _ _ good).half plan.if-src-gt-MAX_DATA.false
    plan.take_event-planned.ensures c.write-written.ensures c.finish.ensures
