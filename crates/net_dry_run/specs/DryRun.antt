-- The dry run: the journey of a telegram played over tables end to end.
-- Assumes nothing.
use Rattle.std.specs.Prelude.{ℕ, ◌-◌, ◌≤◌, ◌≡◌, true, not, List, ◌++◌, Result, Ok, Err, ltb, length, replicate}
use Rattle.base.specs.Choice.{pick}
use Rattle.base.specs.Places.{placed}
use Rattle.refusal.specs.Numbers.{number_of}
use Rattle.refusal.specs.declared.Refusal.{Refusal}
use Rattle.mop_header.specs.Header.{Head}
use Rattle.mop_reader.specs.Reading.{Reading, sound, faulty, too_long, reading}
use Rattle.mop_reader.specs.declared.Reader.TheVariants.{Station}
use Rattle.net_journey.specs.Journey.{Ending, Course}
use Rattle.net_journey.specs.Terms.{last_telegram}
use Rattle.net_journey.specs.Demand3.{TheJourney}
use Rattle.net_journey.specs.Bounded.{playing, most_transmissions}
use Rattle.net_hop.specs.Tables.{net_of, tables_of, set_up}
use Rattle.net_hop.specs.Hop.{ending_of}
use Rattle.net_dry_run.specs.declared.Played.{Played}

-- what a dry run gives back: the count of transmissions, how the journey ended, and the length of its last telegram; or, refused
-- outright, the number of the refusal
pub data Outcome : Type 0 where
  played : ℕ → Ending → ℕ → Outcome
  outright : ℕ → Outcome

abbrev pub outcome_of : Result Played Refusal → Outcome
outcome_of (Ok p) = played p.count (ending_of p.ending) p.length
outcome_of (Err r) = outright (number_of r)

-- what is given back, and the tables and the output afterwards
pub record DryRun : Type 0 where
  pub outcome : Outcome
  pub tables : List ℕ
  pub output : List ℕ

abbrev pub leaves : Outcome → List ℕ → List ℕ → DryRun
leaves o tables out = record { outcome = o; tables = tables; output = out }

abbrev pub dry_run_of : Result Played Refusal → List ℕ → List ℕ → DryRun
dry_run_of r tables out = leaves (outcome_of r) tables out

-- the places of the output that a dry run fills, and asks for
abbrev pub run_output : ℕ
run_output = 1024

-- a telegram, and then 0
unfoldable pub padded : List ℕ → List ℕ
padded tg = tg ++ replicate (run_output - length tg) 0

-- after a journey: its count, ending and last telegram, and the tables as it leaves them
unfoldable pub of_course : Course → List ℕ → DryRun
of_course c out =
    let last = last_telegram c.transmissions in
    leaves (played (length c.transmissions) c.ending (length last)) (tables_of c.after) (placed (padded last) out)

-- 2 to 6 for the header, and then the journey
unfoldable pub run_of : Reading → List ℕ → List ℕ → List ℕ → List ℕ → DryRun
run_of (faulty k) tg addresses tables out = leaves (outright k) tables out
run_of (sound h) tg addresses tables out = of_course (playing most_transmissions (net_of addresses tables) tg) out

-- the call: 1, 12, 11, and the rest
unfoldable pub dry_run : List ℕ → List ℕ → List ℕ → List ℕ → DryRun
dry_run tg addresses tables out =
    pick (not (set_up addresses tables)) (leaves (outright 1) tables out)
    (pick (too_long tg) (leaves (outright 12) tables out)
    (pick (ltb (length out) run_output) (leaves (outright 11) tables out)
    (run_of (reading Station tg) tg addresses tables out)))

-- what a dry run that is not refused gives is the one journey of that net, which demand 3 holds of
pub record RanTheJourney (tg addresses tables out : List ℕ) : Type 0 where
  pub journey : TheJourney (net_of addresses tables) tg
  pub gives : dry_run tg addresses tables out ≡ of_course journey.course out

abbrev pub RunsTheJourney : Type 0
RunsTheJourney =
    (tg addresses tables out : List ℕ) (h : Head) → set_up addresses tables ≡ true → run_output ≤ length out → reading Station tg ≡ sound h →
    RanTheJourney tg addresses tables out
