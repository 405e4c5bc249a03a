-- What a station never does, whatever it is handed.
-- Assumes nothing.
use Rattle.std.specs.Prelude.{ℕ, ◌≡◌, List, ◌⊎◌}
use Rattle.mop_header.specs.Header.{Head, body_of}
use Rattle.mop_reader.specs.Reading.{sound, reading}
use Rattle.mop_reader.specs.declared.Reader.TheVariants.{Station}
use Rattle.mop_step.specs.Safety.{CarriesOut}
use Rattle.mop_station.specs.Station.{Handled, sent, not_mine, refuses, Handling, handling}

-- registers and output are as they were, unless a telegram is sent
abbrev pub UnlessSent : Handled → Type 0 → Type 0
UnlessSent (sent n) kept = Unit
UnlessSent not_mine kept = kept
UnlessSent (refuses k) kept = kept

abbrev pub Kept : Handling → List ℕ → List ℕ → Type 0
Kept h t out = UnlessSent h.handled ((h.registers ≡ t) × (h.output ≡ out))

-- a refusal, and "not mine", change nothing
abbrev pub RefusedKeepsAll : Type 0
RefusedKeepsAll = (own : ℕ) (t telegram out : List ℕ) → Kept (handling own t telegram out) t out

-- a station carries out a telegram: its header is in order, and the body is carried out
pub record CarriesOutTelegram (own : ℕ) (t telegram registers : List ℕ) : Type 0 where
  pub head : Head
  pub order : reading Station telegram ≡ sound head
  pub carried : CarriesOut own head (body_of head telegram) t registers

-- nobody but the destination changes a register, and it writes all or none
abbrev pub OnlyDestinationWrites : Type 0
OnlyDestinationWrites =
    (own : ℕ) (t telegram out : List ℕ) →
    ((handling own t telegram out).registers ≡ t) ⊎ CarriesOutTelegram own t telegram (handling own t telegram out).registers
