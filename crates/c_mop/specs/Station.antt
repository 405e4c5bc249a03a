-- The call of a station: hanraquin_station.
-- Assumes nothing.
use Rattle.std.specs.Prelude.{ℕ, List}
use Rattle.mop_station.specs.Station.{Handled, sent, refuses, Handling, handling}
use Rattle.mop_station.specs.Station as station
use Rattle.c_answer.specs.Answer.{done, not_mine, refused}

-- the value is the length of what is sent
abbrev pub of_handled : Handled → ℕ
of_handled (sent n) = done n
of_handled station.not_mine = not_mine
of_handled (refuses k) = refused k

-- the answer, and the table of registers and the output afterwards
pub record AtStation : Type 0 where
  pub answer : ℕ
  pub registers : List ℕ
  pub output : List ℕ

abbrev pub at_station : ℕ → List ℕ → List ℕ → AtStation
at_station r t out = record { answer = r; registers = t; output = out }

abbrev pub at_station_by : Handling → AtStation
at_station_by h = at_station (of_handled h.handled) h.registers h.output

-- hanraquin_station: as handling says
unfoldable pub station_call : ℕ → List ℕ → List ℕ → List ℕ → AtStation
station_call own t telegram out = at_station_by (handling own t telegram out)
