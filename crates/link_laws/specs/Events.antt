-- What holds of every event.
-- Assumes nothing.
use Rattle.std.specs.Prelude.{ℕ, ◌≡◌, false, List, length, get_or}
use Rattle.link_receive.specs.Receive.{Outcome, at, against, receive_of}
use Rattle.events.specs.declared.Event.{Event}
use Rattle.link_receive.specs.declared.LinkState.{LinkState}
use Rattle.link_receive.specs.declared.Phase.TheVariants.{Rest}

-- a list after a store at one place at most
pub record OnlyAt (place : ℕ) (before after : List ℕ) : Type 0 where
  pub long : length after ≡ length before
  pub kept : (i : ℕ) → (i ≡ place → ⊥) → get_or after i 0 ≡ get_or before i 0

-- whatever the event, only the place at the count may change
abbrev pub WritesAtCount : Type 0
WritesAtCount = (s : LinkState) (e : Event) (buf : List ℕ) → OnlyAt s.count buf (receive_of s e buf).buffer

-- an event that is not refused and ends at rest clears count and running check, and erases nothing
pub record Settled (buf : List ℕ) (o : Outcome) : Type 0 where
  pub clear : o.reaction.next ≡ at Rest 0 0
  pub kept : o.buffer ≡ buf

abbrev pub RestIsClear : Type 0
RestIsClear =
    (s : LinkState) (e : Event) (buf : List ℕ) → against s.count buf ≡ false →
    (receive_of s e buf).reaction.next.phase ≡ Rest → Settled buf (receive_of s e buf)
