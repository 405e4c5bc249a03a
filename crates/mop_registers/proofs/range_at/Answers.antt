-- `range_at`: the range of the row at the place, and behind the last row no value.
-- Assumes nothing.
use mathlib.Core.Path.{sym, ap}
use Rattle.mop_registers.specs.Rows.{table_length}
use Rattle.mop_registers.specs.Private.Columns.{range_at}
use Rattle.mop_registers.proofs.Columns.{past_all, no_value}
use Rattle.mop_registers.proofs.range_at.Goals as goal

pub returns-in-0 : goal.returns-in-0
unfolding range_at
returns-in-0 c = sym (ap range_at c.in-0.is)

pub returns-in-1 : goal.returns-in-1
unfolding range_at
returns-in-1 c = sym (ap range_at c.in-1.is)

pub returns-in-2 : goal.returns-in-2
unfolding range_at
returns-in-2 c = sym (ap range_at c.in-2.is)

pub returns-in-3 : goal.returns-in-3
unfolding range_at
returns-in-3 c = sym (ap range_at c.in-3.is)

pub returns-in-4 : goal.returns-in-4
unfolding range_at
returns-in-4 c = sym (ap range_at c.in-4.is)

pub returns-in-5 : goal.returns-in-5
unfolding range_at
returns-in-5 c = sym (ap range_at c.in-5.is)

pub returns-in-6 : goal.returns-in-6
unfolding range_at
returns-in-6 c = sym (ap range_at c.in-6.is)

pub returns-in-7 : goal.returns-in-7
unfolding range_at
returns-in-7 c = sym (ap range_at c.in-7.is)

pub returns-in-8 : goal.returns-in-8
unfolding range_at
returns-in-8 c = sym (ap range_at c.in-8.is)

pub returns-in-9 : goal.returns-in-9
unfolding range_at
returns-in-9 c = sym (ap range_at c.in-9.is)

pub returns-in-10 : goal.returns-in-10
unfolding range_at
returns-in-10 c = sym (ap range_at c.in-10.is)

pub returns-in-11 : goal.returns-in-11
unfolding range_at
returns-in-11 c = sym (ap range_at c.in-11.is)

pub returns-in-12 : goal.returns-in-12
unfolding range_at
returns-in-12 c = sym (ap range_at c.in-12.is)

pub returns-in-13 : goal.returns-in-13
unfolding range_at
returns-in-13 c = sym (ap range_at c.in-13.is)

pub returns-in-14 : goal.returns-in-14
unfolding range_at
returns-in-14 c = sym (ap range_at c.in-14.is)

pub returns-in-15 : goal.returns-in-15
unfolding range_at
returns-in-15 c = sym (ap range_at c.in-15.is)

pub returns-in-16 : goal.returns-in-16
unfolding range_at
returns-in-16 c = sym (ap range_at c.in-16.is)

pub returns-in-17 : goal.returns-in-17
unfolding range_at
returns-in-17 c = sym (ap range_at c.in-17.is)

pub returns-in_default : goal.returns-in_default
unfolding table_length
returns-in_default c = sym (no_value _ (past_all table_length Unit _ c.in_default.in_default-own.rest))
