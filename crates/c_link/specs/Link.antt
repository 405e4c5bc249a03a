-- The calls of the link: hanraquin_frame and hanraquin_receive.
-- Assumes nothing.
use Rattle.std.specs.Prelude.{ℕ, ◌+◌, Bool, not, ◌&&◌, List, [], ◌∷◌, eqb, leb, length, get_or}
use Rattle.base.specs.Choice.{pick}
use Rattle.link_frame.specs.Frame.{framing}
use Rattle.link_receive.specs.Receive.{Response, nothing, sends, delivers, refuses, Outcome, at, against, receive_of}
use Rattle.link_receive.specs.declared.Dle.{Dle}
use Rattle.link_receive.specs.declared.Dle.TheVariants.{Seen, NotSeen}
use Rattle.link_receive.specs.declared.Phase.{Phase}
use Rattle.link_receive.specs.declared.Phase.TheVariants.{Rest, Inside, Waiting}
use Rattle.link_receive.specs.declared.LinkState.{LinkState}
use Rattle.c_answer.specs.Event.{event_at}
use Rattle.c_answer.specs.Answer.{done, refused, Written, written_by}

-- hanraquin_frame: as framing says
unfoldable pub frame_call : List ℕ → List ℕ → Written
frame_call d out = written_by (framing d out)

-- a phase as a number: 0 at rest, 1 inside a block, 2 inside after a DLE, 3 waiting
abbrev pub phase_number : Phase → ℕ
phase_number Rest = 0
phase_number (Inside NotSeen) = 1
phase_number (Inside Seen) = 2
phase_number Waiting = 3

-- and the other way round, for the numbers that `is_state` takes
unfoldable pub dle_at : ℕ → Dle
dle_at n = pick (eqb n 2) Seen NotSeen

unfoldable pub phase_at : ℕ → Phase
phase_at n = pick (eqb n 0) Rest (pick (eqb n 3) Waiting (Inside (dle_at n)))

-- a state as three numbers: its phase, its count and its running check
abbrev pub state_words : LinkState → List ℕ
state_words s = phase_number s.phase ∷ s.count ∷ s.check ∷ []

abbrev pub state_at : List ℕ → LinkState
state_at words = at (phase_at (get_or words 0 0)) (get_or words 1 0) (get_or words 2 0)

-- whether numbers are a state: three, the first a phase, and the last a byte
unfoldable pub is_state : List ℕ → Bool
is_state words = eqb (length words) 3 && leb (get_or words 0 0) 3 && leb (get_or words 2 0) 255

-- whether a number is an event: a byte, or 256 for the timer. No larger number is one
unfoldable pub is_event : ℕ → Bool
is_event n = leb n 256

-- the value tells what to do: 0 nothing; 256 and the byte to send; 65536 and the length of the message, with which a DLE is sent
abbrev pub of_response : Response → ℕ
of_response nothing = done 0
of_response (sends b) = done (256 + b)
of_response (delivers b n) = done (65536 + n)
of_response (refuses k) = refused k

-- the answer, and the state and the buffer afterwards
pub record Received : Type 0 where
  pub answer : ℕ
  pub state : List ℕ
  pub buffer : List ℕ

abbrev pub received : ℕ → List ℕ → List ℕ → Received
received r words buf = record { answer = r; state = words; buffer = buf }

abbrev pub received_by : Outcome → Received
received_by o = received (of_response o.reaction.response) (state_words o.reaction.next) o.buffer

-- hanraquin_receive: 1 for a number that is no event, for numbers that are no state, or one against its buffer, and state and
-- buffer stay; else one event
unfoldable pub receive_call : List ℕ → ℕ → List ℕ → Received
receive_call words event buf =
    pick (is_event event && is_state words && not (against (get_or words 1 0) buf))
    (received_by (receive_of (state_at words) (event_at event) buf))
    (received (refused 1) words buf)
