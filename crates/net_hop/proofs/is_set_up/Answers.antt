-- `is_set_up`: not too many, a table for each, and then the addresses.
-- Assumes nothing.
use Rattle.std.proofs.lemmas.Bool.Decides.{nat_tests}
use Rattle.mop_registers.specs.Rows.{table_length}
use Rattle.net_hop.specs.Tables.{tables_fit, set_up}
use native.Mathlib.Omega.{arith}
use Rattle.net_hop.proofs.is_set_up.Goals as goal

pub returns-then-tables-addresses : goal.returns-then-tables-addresses
unfolding set_up tables_fit table_length
returns-then-tables-addresses c = grind (arith, nat_tests)

pub returns-else-tables-addresses : goal.returns-else-tables-addresses
unfolding set_up tables_fit table_length
returns-else-tables-addresses c = grind (arith, nat_tests)
