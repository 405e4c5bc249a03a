-- `report`: each return is a case of reporting.
-- Assumes nothing.
use mathlib.Core.Path.{◌≡◌, sym, ◌∙◌}
use mathlib.Core.Bool.{true}
use native.Mathlib.Omega.{arith}
use Rattle.refusal.specs.Numbers.{number_of}
use Rattle.net_hop.specs.Tables.{set_up}
use Rattle.net_report.specs.Text.{outright_text}
use Rattle.net_report.specs.Report.{told_of}
use Rattle.net_report.proofs.Reporting.{reports_short, reports_unfit, reports_rest, tells_text}
use borrow.Author.Rules.{rules}
use Rattle.net_report.proofs.report.Goals as goal
use Rattle.net_report.proofs.report.Goals.{Else-not-is_set_up}

-- behind the test the net is set up rightly
is_fit : (c : Else-not-is_set_up) → (let a = c.args in set_up a.addresses.now a.tables.now ≡ true)
is_fit c = sym c.is_set_up.ensures ∙ c.if-not-is_set_up.false

pub returns-then-out-lt-REPORT_OUTPUT : goal.returns-then-out-lt-REPORT_OUTPUT
returns-then-out-lt-REPORT_OUTPUT c = sym (reports_short _ _ _ _ (omega arith))

pub returns-then-not-is_set_up : goal.returns-then-not-is_set_up
returns-then-not-is_set_up c =
    let a = c.args in
    let x = c.write_outright.ensures in
    let unfit = sym c.is_set_up.ensures ∙ c.if-not-is_set_up.true in
    tells_text (outright_text 1) a.tables.now a.out.now x.out_after (omega arith)
    ∙ sym (reports_unfit a.telegram.now a.addresses.now a.tables.now a.out.now (omega arith) unfit)

pub write_journey-requires : goal.write_journey-requires
write_journey-requires c =
    record {
      telegram_value = sym (rw c.in-Ok.is at c.read.ensures);
      tables_value = is_fit (goal.at.write_journey-requires c).Else-not-is_set_up;
      report_output_in_bounds = search rules;
    }

pub returns-in-Err : goal.returns-in-Err
unfolding told_of
returns-in-Err c =
    let a = c.args in
    let x = c.write_outright-in-Err.ensures in
    let read = rw c.in-Err.is at c.read.ensures in
    tells_text (outright_text (number_of c.in-Err.refusal)) a.tables.now a.out.now x.out_after (omega arith)
    ∙ sym (reports_rest a.telegram.now a.addresses.now a.tables.now a.out.now (omega arith)
    (is_fit (goal.at.returns-in-Err c).Else-not-is_set_up) (sym read))

pub returns-in-Ok : goal.returns-in-Ok
unfolding told_of
returns-in-Ok c =
    let a = c.args in
    let read = rw c.in-Ok.is at c.read.ensures in
    c.write_journey.ensures
    ∙ sym (reports_rest a.telegram.now a.addresses.now a.tables.now a.out.now (omega arith)
    (is_fit (goal.at.returns-in-Ok c).Else-not-is_set_up) (sym read))
