-- `takes`: the value against the range at the place of the number.
-- Assumes nothing.
use mathlib.Core.Path.{sym, ◌∙◌}
use Rattle.mop_registers.proofs.Columns.{range_said, some_said}
use Rattle.mop_registers.proofs.takes.Goals as goal

pub returns-in-Some-Any : goal.returns-in-Some-Any
returns-in-Some-Any c = some_said _ c.place_of.ensures c.range_at.ensures c.in-Some-Any.is c.in-Some-Any.field-0-is _

pub returns-in-Some-FromTo : goal.returns-in-Some-FromTo
returns-in-Some-FromTo c = c.is_within.ensures ∙ some_said _ c.place_of.ensures c.range_at.ensures c.in-Some-FromTo.is c.in-Some-FromTo.field-0-is _

pub returns-in-Some-TimeOfDay : goal.returns-in-Some-TimeOfDay
returns-in-Some-TimeOfDay c = c.is_time_of_day.ensures ∙ some_said _ c.place_of.ensures c.range_at.ensures c.in-Some-TimeOfDay.is c.in-Some-TimeOfDay.field-0-is _

pub returns-in-None : goal.returns-in-None
returns-in-None c = range_said _ c.place_of.ensures c.range_at.ensures c.in-None.is _

pub returns-then-is_within : goal.returns-then-is_within
returns-then-is_within c =
    let said = some_said _ c.place_of.ensures c.range_at.ensures c.in-Some-FromToOr65535.is c.in-Some-FromToOr65535.field-0-is c.args.value in
    c.if-is_within.true ∙ rw (sym c.is_within-in-Some-FromToOr65535.ensures ∙ c.if-is_within.true) at said

pub returns-else-is_within : goal.returns-else-is_within
returns-else-is_within c =
    let said = some_said _ c.place_of.ensures c.range_at.ensures c.in-Some-FromToOr65535.is c.in-Some-FromToOr65535.field-0-is c.args.value in
    rw (sym c.is_within-in-Some-FromToOr65535.ensures ∙ c.if-is_within.false) at said

pub returns-then-is_time_of_day : goal.returns-then-is_time_of_day
returns-then-is_time_of_day c =
    let said = some_said _ c.place_of.ensures c.range_at.ensures c.in-Some-TimeOfDayOr65535.is c.in-Some-TimeOfDayOr65535.field-0-is c.args.value in
    c.if-is_time_of_day.true ∙ rw (sym c.is_time_of_day-in-Some-TimeOfDayOr65535.ensures ∙ c.if-is_time_of_day.true) at said

pub returns-else-is_time_of_day : goal.returns-else-is_time_of_day
returns-else-is_time_of_day c =
    let said = some_said _ c.place_of.ensures c.range_at.ensures c.in-Some-TimeOfDayOr65535.is c.in-Some-TimeOfDayOr65535.field-0-is c.args.value in
    rw (sym c.is_time_of_day-in-Some-TimeOfDayOr65535.ensures ∙ c.if-is_time_of_day.false) at said
