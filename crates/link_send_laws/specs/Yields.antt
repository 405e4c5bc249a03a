-- A yield: how it begins, what the half does in it, how it ends, and who never yields.
-- Assumes nothing.
use Rattle.std.specs.Prelude.{ℕ, ◌≡◌, false, List, [], ◌∷◌, ◌++◌, length}
use Rattle.link_frame.specs.ControlBytes.{STX}
use Rattle.link_receive.specs.Receive.{Outcome, at, receive_of}
use Rattle.events.specs.declared.Event.{Event}
use Rattle.events.specs.declared.Event.TheVariants as heard
use Rattle.link_receive.specs.declared.LinkState.{LinkState}
use Rattle.link_receive.specs.declared.Phase.TheVariants.{Rest}
use Rattle.link_send.specs.Send.{opening, answer_byte, bytes_of, Sending, answer_parts, delivery_of, responding, attempts, into, begun, send_of}
use Rattle.link_send.specs.declared.Priority.TheVariants.{Low, High}
use Rattle.link_send.specs.declared.Sender.{Sender}
use Rattle.link_send.specs.declared.SendEvent.{SendEvent}
use Rattle.link_send.specs.declared.SendEvent.TheVariants.{Byte, Timer}
use Rattle.link_send.specs.declared.SendPhase.TheVariants.{Opening, Receiving}
use Rattle.link_send_laws.specs.Runs.{Call, after_all, is_refused, is_receiving}

-- an event of the half, as one of the sender
abbrev pub as_event : Event → SendEvent
as_event (heard.Byte b) = Byte b
as_event heard.Timer = Timer

-- the half's answer goes out by itself, and the yield goes on with the half's next state
pub record GoesOn (s : Sender) (o : Outcome) (r : Sending) : Type 0 where
  pub parts : r.parts ≡ answer_parts o.reaction.response
  pub next : r.outcome.reaction.next ≡ into s s.failed (Receiving o.reaction.next)

-- the half's answer goes out by itself, and the half goes on; no attempt has failed
pub record Began (s : Sender) (o : Outcome) (r : Sending) : Type 0 where
  pub parts : r.parts ≡ answer_parts o.reaction.response
  pub next : r.outcome.reaction.next ≡ into s (attempts 0 0) (Receiving o.reaction.next)
  pub buffer : r.outcome.buffer ≡ o.buffer

-- the half's answer goes out with an opening behind it, and the sender begins afresh, with no attempt failed
pub record Ends (s : Sender) (o : Outcome) (r : Sending) : Type 0 where
  pub parts : r.parts ≡ answer_parts o.reaction.response ++ (opening ∷ [])
  pub next : r.outcome.reaction.next ≡ begun s

-- the half answers by a byte
pub record Answers (o : Outcome) : Type 0 where
  pub byte : ℕ
  pub parts : answer_parts o.reaction.response ≡ answer_byte byte ∷ []

-- a call in a yield, beside what the half does with the same event and buffer by itself
pub record AsByItself (h : LinkState) (s : Sender) (d : List ℕ) (o : Outcome) (r : Sending) : Type 0 where
  pub buffer : r.outcome.buffer ≡ o.buffer
  pub response : r.outcome.reaction.response ≡ responding (delivery_of o.reaction.response) (length (bytes_of d r.parts))
  pub goes_on : (o.reaction.next.phase ≡ Rest → ⊥) → GoesOn s o r
  pub ends : o.reaction.next.phase ≡ Rest → Ends s o r
  -- so two bytes go out in the event that brings a half to rest
  pub answers : (h.phase ≡ Rest → ⊥) → o.reaction.next.phase ≡ Rest → Answers o

-- In a yield the half does what it does by itself, wherever the call is not refused.
abbrev pub HalfByItself : Type 0
HalfByItself =
    (s : Sender) (h : LinkState) (e : Event) (d buf out : List ℕ) → s.phase ≡ Receiving h →
    is_refused (send_of s (as_event e) d buf out).outcome.reaction.response ≡ false →
    AsByItself h s d (receive_of h e buf) (send_of s (as_event e) d buf out)

-- A yield begins as a half at rest takes an STX: its answer goes out, and it is the half of the yield. No attempt has failed.
abbrev pub YieldBegins : Type 0
YieldBegins =
    (s : Sender) (d buf out : List ℕ) → s.phase ≡ Opening → s.priority ≡ Low →
    is_refused (send_of s (Byte STX) d buf out).outcome.reaction.response ≡ false →
    let o = receive_of (at Rest 0 0) (heard.Byte STX) buf in
    Began s o (send_of s (Byte STX) d buf out)

-- No calls take a sender of high priority into receiving.
abbrev pub HighNeverYields : Type 0
HighNeverYields =
    (s : Sender) (cs : List Call) → s.priority ≡ High → is_receiving s.phase ≡ false →
    is_receiving (after_all s cs).phase ≡ false
