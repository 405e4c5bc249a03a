-- Who is a station.
-- Assumes nothing.
use mathlib.Core.Path.{◌≡◌}
use mathlib.Core.Bool.{true, and-eq-true_iff}
use mathlib.Core.List.{List}
use Prim.Native.Nat.{ℕ}
use borrow.Author.Tests.{eq-eqb, eqb-true}
use lib.Dec.{eqb}
use lib.ListN.{length}
use Rattle.mop_registers.specs.Rows.{table_length}
use Rattle.mop_block.specs.Block.{is_address}
use Rattle.mop_step.specs.Step.{is_station}

-- an own address and a table of the right length
pub is_station_lem : (own : ℕ) (t : List ℕ) → is_address own ≡ true → length t ≡ table_length → is_station own t ≡ true
unfolding is_station
is_station_lem own t a l = rw (a, eq-eqb (length t) table_length l)

pub station_table : (own : ℕ) (t : List ℕ) → is_station own t ≡ true → length t ≡ table_length
unfolding is_station
station_table own t e = eqb-true (length t) table_length ((and-eq-true_iff (is_address own) (eqb (length t) table_length)).0 e).1
