-- A sender at one end of a cable and a receiving half at the other, event by event.
-- Assumes nothing.
use Rattle.std.specs.Prelude.{ℕ, ◌≤◌, ◌≡◌, List, [], ◌∷◌, ◌++◌, length, take}
use Rattle.base.specs.Places.{placed}
use Rattle.link_frame.specs.Frame.{frame_of, max_data}
use Rattle.link_receive.specs.Receive.{Response, Outcome, at, receive_of}
use Rattle.events.specs.declared.Event.TheVariants as heard
use Rattle.link_receive.specs.declared.LinkState.{LinkState}
use Rattle.link_receive.specs.declared.Phase.TheVariants.{Rest}
use Rattle.link_laws.specs.RoundTrip.{frame_answers}
use Rattle.link_send.specs.Send.{bytes_of, SendResponse, answer_parts, SendOutcome, attempts, into, least, most, send_of}
use Rattle.link_send.specs.declared.Sender.{Sender}
use Rattle.link_send.specs.declared.SendEvent.TheVariants.{Start, Byte}
use Rattle.link_send.specs.declared.SendPhase.TheVariants.{Fresh, Sent}
use Rattle.link_send_laws.specs.Runs.{bytes_told}

-- a sender whose limits are good, with no more attempts failed than they allow
pub record Usable (s : Sender) : Type 0 where
  pub connections : (least ≤ s.limits.connections) × (s.limits.connections ≤ most)
  pub blocks : (least ≤ s.limits.blocks) × (s.limits.blocks ≤ most)
  pub failed : (s.failed.connections ≤ s.limits.connections) × (s.failed.blocks ≤ s.limits.blocks)

-- both ends, what is on its way to each, and all that the half has answered
pub record Cable : Type 0 where
  -- the sender, with its receive buffer and its output
  pub sender : Sender
  pub own : List ℕ
  pub output : List ℕ
  pub half : LinkState
  pub buffer : List ℕ
  pub answers : List Response
  pub to_half : List ℕ
  pub to_sender : List ℕ

-- the bytes that a call tells the sender's end to send: so many first places of the output
abbrev pub sent_bytes : SendResponse → List ℕ → List ℕ
sent_bytes r out = take (bytes_told r) out

-- the byte that the half's end sends, if any
abbrev pub answer_bytes : Response → List ℕ
answer_bytes r = bytes_of [] (answer_parts r)

-- after a call of the sender, with bytes left on their way to it
abbrev pub sender_done : Cable → List ℕ → SendOutcome → Cable
sender_done c left l =
    record {
      sender = l.reaction.next;
      own = l.buffer;
      output = l.output;
      half = c.half;
      buffer = c.buffer;
      answers = c.answers;
      to_half = c.to_half ++ sent_bytes l.reaction.response l.output;
      to_sender = left;
    }

-- after a call of the half, with bytes left on their way to it
abbrev pub half_done : Cable → List ℕ → Outcome → Cable
half_done c left o =
    record {
      sender = c.sender;
      own = c.own;
      output = c.output;
      half = o.reaction.next;
      buffer = o.buffer;
      answers = c.answers ++ (o.reaction.response ∷ []);
      to_half = left;
      to_sender = c.to_sender ++ answer_bytes o.reaction.response;
    }

module _ (d : List ℕ) where
  -- the sender takes the next byte on its way to it, if there is one
  abbrev pub sender_next : List ℕ → Cable → Cable
  sender_next [] c = c
  sender_next (b ∷ left) c = sender_done c left (send_of c.sender (Byte b) d c.own c.output).outcome

  -- The half takes the next byte on its way to it. No byte is fed to the sender while its own are still going out, so it takes
  -- one only when there are none on their way to the half.
  abbrev pub half_next : List ℕ → Cable → Cable
  half_next [] c = sender_next c.to_sender c
  half_next (b ∷ left) c = half_done c left (receive_of c.half (heard.Byte b) c.buffer)

  -- the next event
  abbrev pub next : Cable → Cable
  next c = half_next c.to_half c

  -- after some events
  pub data Reaches : Cable → Cable → Type 0 where
    here : {c : Cable} → Reaches c c
    later : {c e : Cable} → Reaches (next c) e → Reaches c e

-- the sender has been started, at the other end is a half at rest, and only what the start sends is on its way
abbrev pub after_start : ℕ → List ℕ → SendOutcome → Cable
after_start check buf o =
    record {
      sender = o.reaction.next;
      own = o.buffer;
      output = o.output;
      half = at Rest 0 check;
      buffer = buf;
      answers = [];
      to_half = sent_bytes o.reaction.response o.output;
      to_sender = [];
    }

abbrev pub started : List ℕ → Sender → List ℕ → List ℕ → ℕ → List ℕ → Cable
started d s own out check buf = after_start check buf (send_of s Start d own out).outcome

-- the block was answered, the half is at rest with the data as the message it delivered, and nothing is on its way
pub record Delivered (s : Sender) (d buf : List ℕ) (c : Cable) : Type 0 where
  pub sender : c.sender ≡ into s (attempts 0 0) Sent
  pub half : c.half ≡ at Rest 0 0
  pub buffer : c.buffer ≡ placed d buf
  pub answers : c.answers ≡ frame_answers d
  pub to_half : c.to_half ≡ []
  pub to_sender : c.to_sender ≡ []

pub record Arrives (s : Sender) (d buf : List ℕ) (from : Cable) : Type 0 where
  pub end : Cable
  pub reached : Reaches d from end
  pub delivered : Delivered s d buf end

-- End to end: a fresh sender with room for the frame is started, and at the other end is a half at rest, with count 0, any
-- running check and room for the data. The data arrives, and the sender ends in "sent".
abbrev pub EndToEnd : Type 0
EndToEnd =
    (s : Sender) (d own out buf : List ℕ) (check : ℕ) → Usable s → s.phase ≡ Fresh → length d ≤ max_data →
    length (frame_of d) ≤ length out → length d ≤ length buf → Arrives s d buf (started d s own out check buf)
