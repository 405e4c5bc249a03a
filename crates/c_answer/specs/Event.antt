-- The events of a receiver as numbers.
-- Assumes nothing.
use Rattle.std.specs.Prelude.{ℕ, ltb}
use Rattle.base.specs.Choice.{pick}
use Rattle.events.specs.declared.Event.{Event}
use Rattle.events.specs.declared.Event.TheVariants.{Byte, Timer}

-- the event that is the timer; no event is larger
abbrev pub timer : ℕ
timer = 256

-- the event with a number, of those up to the timer
unfoldable pub event_at : ℕ → Event
event_at n = pick (ltb n timer) (Byte n) Timer
