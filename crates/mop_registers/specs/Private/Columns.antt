-- The range as the code has it, and what the row at a place says of writes and of values. Only private contracts cite this.
-- Assumes nothing.
use Rattle.std.specs.Prelude.{ℕ, Bool, false, Option, Some, None, drop}
use Rattle.mop_registers.specs.Rows.{rows, any, from_to, time_of_day, or65535, write_of, range_of}
use Rattle.mop_registers.specs.declared.Range.{Range}
use Rattle.mop_registers.specs.declared.Range.TheVariants.{Any, FromTo, FromToOr65535, TimeOfDay, TimeOfDayOr65535}

-- the values in a range; in none no value
abbrev pub values_in : Option Range → ℕ → Bool
values_in (Some Any) v = any v
values_in (Some (FromTo least most)) v = from_to least most v
values_in (Some (FromToOr65535 least most)) v = or65535 (from_to least most) v
values_in (Some TimeOfDay) v = time_of_day v
values_in (Some TimeOfDayOr65535) v = or65535 time_of_day v
values_in None v = false

-- the row at a place: whether the register takes writes, and the values that it takes
unfoldable pub write_at : ℕ → Bool
write_at place = write_of (drop place rows)

unfoldable pub range_at : ℕ → ℕ → Bool
range_at place = range_of (drop place rows)
