-- `is_station`: the own address, then the length of the table.
-- Assumes nothing.
use Rattle.mop_registers.proofs.Places.{table_length_lem}
use Rattle.mop_step.specs.Step.{is_station}
use mathlib.Core.Path.{sym, ◌∙◌}
use Rattle.mop_step.proofs.is_station.Goals as goal

pub returns-then-is_address : goal.returns-then-is_address
unfolding is_station
returns-then-is_address c = sym (rw (sym c.is_address.ensures ∙ c.if-is_address.true, table_length_lem))

pub returns-else-is_address : goal.returns-else-is_address
unfolding is_station
returns-else-is_address c = c.if-is_address.false ∙ sym (rw (sym c.is_address.ensures ∙ c.if-is_address.false))
