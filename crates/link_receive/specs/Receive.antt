-- The receiving half of 3964R: what one event gives, row by row.
-- Assumes nothing.
use Rattle.std.specs.Prelude.{ℕ, ◌+◌, Bool, ◌||◌, List, Option, Some, None, Result, Ok, Err, ltb, leb, eqb, length, set}
use Rattle.std.specs.Int.Bits.{bit_xor}
use Rattle.base.specs.Choice.{pick}
use Rattle.refusal.specs.Numbers.{number_of}
use Rattle.refusal.specs.declared.Refusal.{Refusal}
use Rattle.link_frame.specs.ControlBytes.{STX, ETX, DLE, NAK}
use Rattle.link_frame.specs.Frame.{max_data}
use Rattle.link_receive.specs.declared.Dle.{Dle}
use Rattle.link_receive.specs.declared.Dle.TheVariants.{Seen, NotSeen}
use Rattle.link_receive.specs.declared.Phase.{Phase}
use Rattle.link_receive.specs.declared.Phase.TheVariants.{Rest, Inside, Waiting}
use Rattle.link_receive.specs.declared.LinkState.{LinkState}
use Rattle.events.specs.declared.Event.{Event}
use Rattle.events.specs.declared.Event.TheVariants.{Byte, Timer}
use Rattle.link_receive.specs.declared.LinkAnswer.{LinkAnswer}
use Rattle.link_receive.specs.declared.LinkAnswer.TheVariants.{Nothing, Send, Message}
use Rattle.link_receive.specs.declared.LinkStep.{LinkStep}

-- what the half does for an event: nothing; it sends a byte; it sends a byte and delivers a message, the first so many
-- bytes of the buffer; or it refuses the call with a number
pub data Response : Type 0 where
  nothing : Response
  sends : ℕ → Response
  delivers : ℕ → ℕ → Response
  refuses : ℕ → Response

-- an answer in bytes and numbers; a message goes with a DLE
abbrev pub told_by : LinkAnswer → Response
told_by Nothing = nothing
told_by (Send b) = sends b
told_by (Message n) = delivers DLE n

-- an answer, or a refusal's number
abbrev pub response_of : Result LinkAnswer Refusal → Response
response_of (Ok a) = told_by a
response_of (Err r) = refuses (number_of r)

-- the answer and the next state
pub record Reaction : Type 0 where
  pub response : Response
  pub next : LinkState

abbrev pub reaction_of : LinkStep → Reaction
reaction_of s = record { response = response_of s.answer; next = s.state }

-- the answer, the next state, and the buffer afterwards
pub record Outcome : Type 0 where
  pub reaction : Reaction
  pub buffer : List ℕ

-- a reaction with the buffer after it
abbrev pub with : Reaction → List ℕ → Outcome
with r buf = record { reaction = r; buffer = buf }

abbrev pub outcome_of : LinkStep → List ℕ → Outcome
outcome_of s buf = with (reaction_of s) buf

-- a phase with a count and a running check
abbrev pub at : Phase → ℕ → ℕ → LinkState
at p n c = record { count = n; check = c; phase = p }

-- an answer with the state after it
abbrev pub to : Response → LinkState → Reaction
to r s = record { response = r; next = s }

-- to rest, where count and running check are 0
abbrev pub resting : Response → Reaction
resting r = to r (at Rest 0 0)

-- From here on n is the count, c the running check, b the byte that came, and buf the buffer.

-- at rest: an STX opens a block, with count and running check 0; a NAK is passed over; another byte is answered by NAK
unfoldable pub rest_of : ℕ → Reaction
rest_of b = pick (eqb b STX) (to (sends DLE) (at (Inside NotSeen) 0 0)) (pick (eqb b NAK) (resting nothing) (resting (sends NAK)))

-- "no room": the count has reached the buffer's length or the most that a block holds
unfoldable pub no_room : ℕ → List ℕ → Bool
no_room n buf = leb (length buf) n || leb max_data n

-- storing a byte, and the buffer afterwards
pub record Storing : Type 0 where
  pub stored : Option LinkState
  pub buffer : List ℕ

abbrev pub storing : Option LinkState → List ℕ → Storing
storing s buf = record { stored = s; buffer = buf }

-- a byte is stored at the count, where there is room
unfoldable pub store_of : ℕ → ℕ → ℕ → List ℕ → Storing
store_of n c b buf = pick (no_room n buf) (storing None buf) (storing (Some (at (Inside NotSeen) (n + 1) c)) (set buf n b))

-- a stored byte is answered by nothing, no room by NAK and rest
unfoldable pub after_store : Option LinkState → Reaction
after_store (Some s) = to nothing s
after_store None = resting (sends NAK)

-- a data byte
unfoldable pub data_of : ℕ → ℕ → ℕ → List ℕ → Outcome
data_of n c b buf = with (after_store (store_of n c b buf).stored) (store_of n c b buf).buffer

-- inside a block, with the byte already in the running check. Without a DLE before it a DLE is noted, another byte is data;
-- after a DLE another DLE is a data byte DLE, ETX ends the data, and anything else is answered by NAK
unfoldable pub inside_of : Dle → ℕ → ℕ → ℕ → List ℕ → Outcome
inside_of NotSeen n c b buf = pick (eqb b DLE) (with (to nothing (at (Inside Seen) n c)) buf) (data_of n c b buf)
inside_of Seen n c b buf =
    pick (eqb b DLE) (data_of n c b buf)
    (pick (eqb b ETX) (with (to nothing (at Waiting n c)) buf) (with (resting (sends NAK)) buf))

-- waiting: the right check byte is answered by DLE and delivers the message, a wrong one by NAK
unfoldable pub waiting_of : ℕ → ℕ → ℕ → Reaction
waiting_of n c b = pick (eqb b c) (resting (delivers DLE n)) (resting (sends NAK))

-- a byte, in each phase; inside a block every byte goes into the running check
unfoldable pub byte_of : Phase → ℕ → ℕ → ℕ → List ℕ → Outcome
byte_of Rest n c b buf = with (rest_of b) buf
byte_of (Inside d) n c b buf = inside_of d n (bit_xor c b) b buf
byte_of Waiting n c b buf = with (waiting_of n c b) buf

-- the timer ran out: at rest nothing, inside a block or waiting NAK
unfoldable pub timer_of : Phase → Reaction
timer_of Rest = resting nothing
timer_of (Inside d) = resting (sends NAK)
timer_of Waiting = resting (sends NAK)

-- an event, at any state
unfoldable pub event_of : Event → LinkState → List ℕ → Outcome
event_of (Byte b) s buf = byte_of s.phase s.count s.check b buf
event_of Timer s buf = with (timer_of s.phase) buf

-- a state "against its buffer": its count is beyond the buffer's length or the most that a block holds
unfoldable pub against : ℕ → List ℕ → Bool
against n buf = ltb (length buf) n || ltb max_data n

-- one event; a state against its buffer is refused with 1, and state and buffer stay
unfoldable pub receive_of : LinkState → Event → List ℕ → Outcome
receive_of s e buf = pick (against s.count buf) (with (to (refuses 1) s) buf) (event_of e s buf)
