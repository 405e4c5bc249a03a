-- No telegram brings a value that is out of range into a register.
-- Assumes nothing.
use Rattle.std.specs.Prelude.{ℕ, List}
use Rattle.mop_registers.specs.Runs.{KeptOrInRange}
use Rattle.mop_station.specs.Station.{handling}
use Rattle.net_journey.specs.Net.{Net, table_at}
use Rattle.net_journey.specs.Journey.{Course, Journey}

-- at a station, whatever it is handed
abbrev pub StationInRange : Type 0
StationInRange = (own : ℕ) (t telegram out : List ℕ) → KeptOrInRange t (handling own t telegram out).registers

-- at each station of a net, on the journey of any first telegram
abbrev pub JourneyInRange : Type 0
JourneyInRange = (net : Net) (tg : List ℕ) (c : Course) → Journey net tg c → (a : ℕ) → KeptOrInRange (table_at a net) (table_at a c.after)
