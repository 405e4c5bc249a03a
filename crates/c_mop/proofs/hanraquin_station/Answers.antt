-- `hanraquin_station`: handling, with the answer as a number.
-- Assumes nothing.
use mathlib.Core.Path.{ap}
use Rattle.c_mop.specs.Station.{at_station_by, station_call}
use Rattle.c_mop.proofs.hanraquin_station.Goals as goal

pub returns : goal.returns
unfolding station_call
returns c = rw c.of_handled.ensures (ap at_station_by c.handle.ensures)
