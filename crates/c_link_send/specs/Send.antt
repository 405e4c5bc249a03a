-- The call of the sender: hanraquin_send.
-- Assumes nothing.
use Rattle.std.specs.Prelude.{ℕ, ◌+◌, ◌*◌, Bool, ◌&&◌, List, ◌∷◌, eqb, leb, ltb, length, get_or, drop}
use Rattle.base.specs.Choice.{pick}
use Rattle.link_receive.specs.Receive.{at}
use Rattle.link_receive.specs.declared.LinkState.{LinkState}
use Rattle.link_receive.specs.declared.Phase.TheVariants.{Rest}
use Rattle.link_send.specs.Send.{attempts, SendResponse, sends, delivers, refuses, SendOutcome, send_of}
use Rattle.link_send.specs.declared.Priority.{Priority}
use Rattle.link_send.specs.declared.Priority.TheVariants.{Low, High}
use Rattle.link_send.specs.declared.SendPhase.{SendPhase}
use Rattle.link_send.specs.declared.SendPhase.TheVariants.{Fresh, Opening, Awaiting, Receiving, Sent, GaveUp}
use Rattle.link_send.specs.declared.Sender.{Sender}
use Rattle.link_send.specs.declared.SendEvent.{SendEvent}
use Rattle.link_send.specs.declared.SendEvent.TheVariants.{Start, Byte, Timer}
use Rattle.c_answer.specs.Answer.{done, refused}
use Rattle.c_answer.specs.Event.{timer}
use Rattle.c_link.specs.Link.{state_words, state_at, is_state}

-- a priority as a number, and the other way round
abbrev pub priority_number : Priority → ℕ
priority_number Low = 0
priority_number High = 1

unfoldable pub priority_at : ℕ → Priority
priority_at n = pick (eqb n 0) Low High

-- a phase as a number, without the half that it may have
abbrev pub send_phase_number : SendPhase → ℕ
send_phase_number Fresh = 0
send_phase_number Opening = 1
send_phase_number Awaiting = 2
send_phase_number (Receiving h) = 3
send_phase_number Sent = 4
send_phase_number GaveUp = 5

-- and the other way round, for the numbers that `is_sender` takes
unfoldable pub send_phase_at : ℕ → LinkState → SendPhase
send_phase_at n h =
    pick (eqb n 0) Fresh
    (pick (eqb n 1) Opening
    (pick (eqb n 2) Awaiting (pick (eqb n 3) (Receiving h) (pick (eqb n 4) Sent GaveUp))))

-- the half of a phase; one at rest, whose three numbers are 0, where the phase has none
abbrev pub half_in : SendPhase → LinkState
half_in Fresh = at Rest 0 0
half_in Opening = at Rest 0 0
half_in Awaiting = at Rest 0 0
half_in (Receiving h) = h
half_in Sent = at Rest 0 0
half_in GaveUp = at Rest 0 0

-- a sender as nine numbers: phase, limits of attempts to connect and to send the block, priority, how many of each have failed,
-- and the half's three
abbrev pub sender_words : Sender → List ℕ
sender_words s =
    send_phase_number s.phase
    ∷ s.limits.connections
    ∷ s.limits.blocks
    ∷ priority_number s.priority
    ∷ s.failed.connections
    ∷ s.failed.blocks
    ∷ state_words (half_in s.phase)

unfoldable pub sender_at : List ℕ → Sender
sender_at w = record {
  limits = attempts (get_or w 1 0) (get_or w 2 0);
  failed = attempts (get_or w 4 0) (get_or w 5 0);
  priority = priority_at (get_or w 3 0);
  phase = send_phase_at (get_or w 0 0) (state_at (drop 6 w));
}

-- whether three numbers may be the half's beside the number of a phase: a state while the sender receives, else zeros
unfoldable pub is_half : ℕ → List ℕ → Bool
is_half n h = pick (eqb n 3) (is_state h) (eqb (get_or h 0 0) 0 && eqb (get_or h 1 0) 0 && eqb (get_or h 2 0) 0)

-- whether numbers are a sender: nine, of which one is a phase, one a priority, and three the half's. Limits and failed attempts
-- are judged by the sender
unfoldable pub is_sender : List ℕ → Bool
is_sender w = eqb (length w) 9 && leb (get_or w 0 0) 5 && leb (get_or w 3 0) 1 && is_half (get_or w 0 0) (drop 6 w)

-- the event that is the start, behind that of the timer
abbrev pub start : ℕ
start = 257

-- whether a number is an event: a byte, the timer, or the start. No larger number is one
unfoldable pub is_event : ℕ → Bool
is_event n = leb n start

-- the event, for the numbers that `is_event` takes
unfoldable pub event_at : ℕ → SendEvent
event_at n = pick (ltb n timer) (Byte n) (pick (eqb n timer) Timer Start)

-- the value is how many bytes are to be sent; with a message 65536 times one more than its length is added
abbrev pub of_response : SendResponse → ℕ
of_response (sends n) = done n
of_response (delivers n count) = done (n + 65536 * (count + 1))
of_response (refuses k) = refused k

-- the answer, and the state, the buffer and the output afterwards
pub record AtSender : Type 0 where
  pub answer : ℕ
  pub state : List ℕ
  pub buffer : List ℕ
  pub output : List ℕ

abbrev pub at_sender : ℕ → List ℕ → List ℕ → List ℕ → AtSender
at_sender r w buf out = record { answer = r; state = w; buffer = buf; output = out }

abbrev pub at_sender_by : SendOutcome → AtSender
at_sender_by o = at_sender (of_response o.reaction.response) (sender_words o.reaction.next) o.buffer o.output

-- hanraquin_send: 1 for a number that is no event, or numbers that are no sender, and all stays; else one event
unfoldable pub send_call : List ℕ → ℕ → List ℕ → List ℕ → List ℕ → AtSender
send_call w event d buf out =
    pick (is_event event && is_sender w)
    (at_sender_by (send_of (sender_at w) (event_at event) d buf out).outcome)
    (at_sender (refused 1) w buf out)
