-- The report: a journey played over tables end to end, and told as text.
-- Assumes nothing.
use Rattle.std.specs.Prelude.{ℕ, ◌≤◌, ◌≡◌, true, not, List, Result, ltb, length}
use Rattle.base.specs.Choice.{pick}
use Rattle.base.specs.Places.{placed}
use Rattle.base.specs.Filling.{Given, filled, refused}
use Rattle.refusal.specs.Writing.{given_of}
use Rattle.refusal.specs.declared.Refusal.{Refusal}
use Rattle.mop_header.specs.Header.{Head}
use Rattle.mop_reader.specs.Reading.{Reading, sound, faulty, reading}
use Rattle.mop_reader.specs.declared.Reader.TheVariants.{Station}
use Rattle.net_journey.specs.Journey.{Course}
use Rattle.net_journey.specs.Demand3.{TheJourney}
use Rattle.net_journey.specs.Bounded.{playing, most_transmissions}
use Rattle.net_hop.specs.Tables.{net_of, tables_of, set_up}
use Rattle.net_report.specs.Text.{course_text, outright_text}

-- what is given back, the length of the text or a refusal, and the tables and the output afterwards
pub record Report : Type 0 where
  pub given : Given
  pub tables : List ℕ
  pub output : List ℕ

abbrev pub leaves : Given → List ℕ → List ℕ → Report
leaves g tables out = record { given = g; tables = tables; output = out }

abbrev pub report_of : Result ℕ Refusal → List ℕ → List ℕ → Report
report_of r tables out = leaves (given_of r) tables out

-- a text in the first places of the output
unfoldable pub tells : List ℕ → List ℕ → List ℕ → Report
tells text tables out = leaves (filled (length text)) tables (placed text out)

-- the text of a journey, and the tables as it leaves them
abbrev pub tells_course : Course → List ℕ → Report
tells_course c out = tells (course_text c) (tables_of c.after) out

-- the places that a report asks for: 62 lines of at most 102 characters, one more that the code could write, and the last one are
-- under 6,500
abbrev pub report_output : ℕ
report_output = 6500

-- the text of a telegram with a fault of its header, and that of its journey
unfoldable pub told_of : Reading → List ℕ → List ℕ → List ℕ → List ℕ → Report
told_of (faulty k) tg addresses tables out = tells (outright_text k) tables out
told_of (sound h) tg addresses tables out = tells_course (playing most_transmissions (net_of addresses tables) tg) out

-- the call: 11 for its own output; then the text of the dry run, with 1, 12 and 2 to 6 told as text
unfoldable pub reporting : List ℕ → List ℕ → List ℕ → List ℕ → Report
reporting tg addresses tables out =
    pick (ltb (length out) report_output) (leaves (refused 11) tables out)
    (pick (not (set_up addresses tables)) (tells (outright_text 1) tables out)
    (told_of (reading Station tg) tg addresses tables out))

-- what is told of a call that is not refused is the one journey of that net
pub record ToldTheJourney (tg addresses tables out : List ℕ) : Type 0 where
  pub journey : TheJourney (net_of addresses tables) tg
  pub tells_it : reporting tg addresses tables out ≡ tells_course journey.course out

abbrev pub TellsTheJourney : Type 0
TellsTheJourney =
    (tg addresses tables out : List ℕ) (h : Head) → set_up addresses tables ≡ true → report_output ≤ length out → reading Station tg ≡ sound h →
    ToldTheJourney tg addresses tables out
