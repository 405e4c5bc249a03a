-- A net of stations, each with its address and its table of registers.
-- Assumes nothing.
use Rattle.std.specs.Prelude.{ℕ, Bool, true, ◌&&◌, List, [], ◌∷◌, map, eqb, length}
use Rattle.base.specs.Choice.{pick}
use Rattle.mop_registers.specs.Rows.{table_length}
use Rattle.mop_block.specs.Block.{has, distinct_addresses}

pub record NetStation : Type 0 where
  pub address : ℕ
  pub registers : List ℕ

abbrev pub Net : Type 0
Net = List NetStation

abbrev pub addresses_of : Net → List ℕ
addresses_of net = map (λ (s : NetStation). s.address) net

-- every table has the right length
unfoldable pub right_tables : Net → Bool
right_tables [] = true
right_tables (s ∷ net) = eqb (length s.registers) table_length && right_tables net

-- the nets that demand 3 speaks of: different addresses 1 to 240, and tables of the right length with any values
unfoldable pub good_net : Net → Bool
good_net net = distinct_addresses (addresses_of net) && right_tables net

-- whether an address is a station's, and whether each of several is
unfoldable pub is_there : ℕ → Net → Bool
is_there a net = has a (addresses_of net)

unfoldable pub all_there : List ℕ → Net → Bool
all_there [] net = true
all_there (a ∷ rest) net = is_there a net && all_there rest net

-- several addresses up to the first that is nobody's, that one included
unfoldable pub up_to_missing : List ℕ → Net → List ℕ
up_to_missing [] net = []
up_to_missing (a ∷ rest) net = a ∷ pick (is_there a net) (up_to_missing rest net) []

-- the table of the station with an address; empty where there is none
unfoldable pub table_at : ℕ → Net → List ℕ
table_at a [] = []
table_at a (s ∷ net) = pick (eqb a s.address) s.registers (table_at a net)

-- the net with another table at the station with an address
unfoldable pub with_table : ℕ → List ℕ → Net → Net
with_table a t [] = []
with_table a t (s ∷ net) = pick (eqb a s.address) (record { address = s.address; registers = t } ∷ net) (s ∷ with_table a t net)
