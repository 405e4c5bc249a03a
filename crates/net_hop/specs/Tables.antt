-- The stations of a dry run: a list of addresses, and their tables end to end.
-- Assumes nothing.
use Rattle.std.specs.Prelude.{ℕ, ◌*◌, ◌≡◌, Bool, true, ◌&&◌, List, [], ◌∷◌, ◌++◌, eqb, leb, length, take, drop}
use Rattle.mop_registers.specs.Rows.{table_length}
use Rattle.mop_block.specs.Block.{distinct_addresses}
use Rattle.net_journey.specs.Net.{Net}

-- the net: each address in turn has the next table
unfoldable pub net_of : List ℕ → List ℕ → Net
net_of [] tables = []
net_of (a ∷ rest) tables = record { address = a; registers = take table_length tables } ∷ net_of rest (drop table_length tables)

-- the tables of a net, end to end
unfoldable pub tables_of : Net → List ℕ
tables_of [] = []
tables_of (s ∷ net) = s.registers ++ tables_of net

-- the most stations of a dry run
abbrev pub max_stations : ℕ
max_stations = 64

-- not too many addresses, and a table of the right length for each
unfoldable pub tables_fit : List ℕ → List ℕ → Bool
tables_fit addresses tables = leb (length addresses) max_stations && eqb (length tables) (table_length * length addresses)

-- set up rightly: so, and different addresses 1 to 240
unfoldable pub set_up : List ℕ → List ℕ → Bool
set_up addresses tables = tables_fit addresses tables && distinct_addresses addresses

-- the tables of the net are the tables given, each where it was
abbrev pub SameTables : Type 0
SameTables = (addresses tables : List ℕ) → set_up addresses tables ≡ true → tables_of (net_of addresses tables) ≡ tables
