-- The cases of reporting.
-- Assumes nothing.
use mathlib.Core.Path.{◌≡◌, ◌∙◌, ap}
use mathlib.Core.Bool.{true, false}
use mathlib.Core.List.{List}
use Prim.Native.Nat.{ℕ, ◌≤◌, ◌<◌}
use native.Mathlib.Nat.{zero-add}
use borrow.Author.Tests.{lt-ltb, le-ltb}
use lib.ListN.{length}
use Rattle.base.specs.Filling.{filled, refused}
use Rattle.base.specs.Private.Writing.{Writing, writing_of, writing}
use Rattle.base.proofs.Places.{sets_placed}
use Rattle.base.proofs.Writing.{same_place}
use Rattle.mop_reader.specs.Reading.{Reading, reading}
use Rattle.mop_reader.specs.declared.Reader.TheVariants.{Station}
use Rattle.net_hop.specs.Tables.{set_up}
use Rattle.net_report.specs.Text.{outright_text}
use Rattle.net_report.specs.Report.{leaves, tells, report_output, told_of, reporting}

module _ (tg addresses tables out : List ℕ) where
  pub reports_short : length out < report_output → reporting tg addresses tables out ≡ leaves (refused 11) tables out
  unfolding reporting
  reports_short h = simp (lt-ltb _ _ h)

  module _ (room : report_output ≤ length out) where
    pub reports_unfit : set_up addresses tables ≡ false → reporting tg addresses tables out ≡ tells (outright_text 1) tables out
    unfolding reporting
    reports_unfit e = simp (le-ltb _ _ room, e)

    pub reports_rest : set_up addresses tables ≡ true → {r : Reading} → reading Station tg ≡ r →
        reporting tg addresses tables out ≡ told_of r tg addresses tables out
    unfolding reporting
    reports_rest e f = simp (le-ltb _ _ room, e) (ap (λ (r : Reading). told_of r tg addresses tables out) f)

-- a text from the first place on that has room
pub tells_text : (text : List ℕ) {r : ℕ} (tables : List ℕ) {output : List ℕ} (out : List ℕ) → writing_of r output ≡ writing 0 text out → r ≤ length out →
    leaves (filled r) tables output ≡ tells text tables out
unfolding tells
tells_text text tables out e room =
    let long = same_place e ∙ zero-add (length text) in
    ap (λ (w : Writing). leaves (filled w.at) tables w.output) e ∙ rw (zero-add (length text), sets_placed text out (rw long at room))
