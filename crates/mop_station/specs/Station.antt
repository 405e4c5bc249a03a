-- What a station does with a telegram.
-- Assumes nothing.
use Rattle.std.specs.Prelude.{ℕ, not, List, Option, Some, None, Result, Ok, Err, length}
use Rattle.base.specs.Choice.{pick}
use Rattle.base.specs.Places.{placed}
use Rattle.refusal.specs.Numbers.{number_of}
use Rattle.refusal.specs.declared.Refusal.{Refusal}
use Rattle.mop_header.specs.Header.{telegram_of, body_of}
use Rattle.mop_reader.specs.Reading.{Reading, sound, faulty, reading}
use Rattle.mop_reader.specs.declared.Reader.TheVariants.{Station}
use Rattle.mop_step.specs.Step.{Stepped, relays, answers, Step, is_station, stepping}
use Rattle.mop_step.specs.Step as step

-- what a station gives back: a telegram of so many bytes is sent; "not mine"; or the number of a refusal
pub data Handled : Type 0 where
  sent : ℕ → Handled
  not_mine : Handled
  refuses : ℕ → Handled

-- the answer of the code
abbrev pub handled_of : Result (Option ℕ) Refusal → Handled
handled_of (Ok (Some n)) = sent n
handled_of (Ok None) = not_mine
handled_of (Err r) = refuses (number_of r)

-- what is given back, and the table of registers and the output afterwards
pub record Handling : Type 0 where
  pub handled : Handled
  pub registers : List ℕ
  pub output : List ℕ

abbrev pub leaving : Handled → List ℕ → List ℕ → Handling
leaving h t out = record { handled = h; registers = t; output = out }

abbrev pub handling_of : Result (Option ℕ) Refusal → List ℕ → List ℕ → Handling
handling_of r t out = leaving (handled_of r) t out

-- a telegram in the first places of the output; there is room for it
abbrev pub sending : List ℕ → List ℕ → List ℕ → Handling
sending telegram t out = leaving (sent (length telegram)) t (placed telegram out)

-- what the step makes of a telegram with this body, put into the output
unfoldable pub sending_by : Stepped → List ℕ → List ℕ → List ℕ → Handling
sending_by (relays h) body t out = sending (telegram_of h body) t out
sending_by (answers h reply) body t out = sending (telegram_of h reply) t out
sending_by step.not_mine body t out = leaving not_mine t out
sending_by (step.refuses k) body t out = leaving (refuses k) t out

-- the step, with the room of the output, and then the telegram in the output
abbrev pub taking : Step → List ℕ → List ℕ → Handling
taking s body out = sending_by s.stepped body s.registers out

-- a fault of the header is refused by everybody
unfoldable pub hearing : Reading → ℕ → List ℕ → List ℕ → List ℕ → Handling
hearing (faulty k) own telegram t out = leaving (refuses k) t out
hearing (sound h) own telegram t out = let body = body_of h telegram in taking (stepping own h body t (length out)) body out

-- the call. The order: 1 here; 12 and 2 to 6 by `reading`; "not mine", 7 to 10 and 11 by `stepping`
unfoldable pub handling : ℕ → List ℕ → List ℕ → List ℕ → Handling
handling own t telegram out =
    pick (not (is_station own t)) (leaving (refuses 1) t out)
    (hearing (reading Station telegram) own telegram t out)
