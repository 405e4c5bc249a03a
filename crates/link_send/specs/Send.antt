-- The sending half of 3964R: what one event gives, row by row.
-- Assumes nothing.
use Rattle.std.specs.Prelude.{ℕ, ◌+◌, Bool, false, ◌||◌, List, [], ◌∷◌, ◌++◌, Option, Some, None, Result, Ok, Err, ltb, eqb, length}
use Rattle.base.specs.Choice.{pick}
use Rattle.base.specs.Filling.{Given, filled, refused, Filling, fitted}
use Rattle.refusal.specs.Numbers.{number_of}
use Rattle.refusal.specs.declared.Refusal.{Refusal}
use Rattle.link_frame.specs.ControlBytes.{STX, DLE}
use Rattle.link_frame.specs.Frame.{frame_of, max_data}
use Rattle.link_receive.specs.Receive as half
use Rattle.link_receive.specs.Receive.{Response, Reaction, Outcome, against, receive_of}
use Rattle.link_receive.specs.declared.Dle.TheVariants.{NotSeen}
use Rattle.events.specs.declared.Event.TheVariants as heard
use Rattle.link_receive.specs.declared.LinkState.{LinkState}
use Rattle.link_receive.specs.declared.Phase.{Phase}
use Rattle.link_receive.specs.declared.Phase.TheVariants.{Rest, Inside, Waiting}
use Rattle.link_send.specs.declared.Attempts.{Attempts}
use Rattle.link_send.specs.declared.Priority.{Priority}
use Rattle.link_send.specs.declared.Priority.TheVariants.{Low, High}
use Rattle.link_send.specs.declared.SendPhase.{SendPhase}
use Rattle.link_send.specs.declared.SendPhase.TheVariants.{Fresh, Opening, Awaiting, Receiving, Sent, GaveUp}
use Rattle.link_send.specs.declared.Sender.{Sender}
use Rattle.link_send.specs.declared.SendEvent.{SendEvent}
use Rattle.link_send.specs.declared.SendEvent.TheVariants.{Start, Byte, Timer}
use Rattle.link_send.specs.declared.SendAnswer.{SendAnswer}
use Rattle.link_send.specs.declared.SendStep.{SendStep}

-- a part of what goes out: an "opening", the STX that asks for a connection; the byte by which a receiving end answers;
-- the block
pub data Part : Type 0 where
  opening : Part
  answer_byte : ℕ → Part
  block : Part

-- its bytes, where d is the data
unfoldable pub part_bytes : List ℕ → Part → List ℕ
part_bytes d opening = STX ∷ []
part_bytes d (answer_byte b) = b ∷ []
part_bytes d block = frame_of d

-- the bytes of parts, one after the other
unfoldable pub bytes_of : List ℕ → List Part → List ℕ
bytes_of d [] = []
bytes_of d (p ∷ ps) = part_bytes d p ++ bytes_of d ps

-- what an event brings: what goes out, the length of a message that was received with it, if any, and the next state
pub record Turn : Type 0 where
  pub parts : List Part
  pub delivery : Option ℕ
  pub next : Sender

-- a turn, and the buffer after it
pub record Taken : Type 0 where
  pub turn : Turn
  pub buffer : List ℕ

abbrev pub with : Turn → List ℕ → Taken
with t buf = record { turn = t; buffer = buf }

-- a turn without a message
abbrev pub sending : List Part → Sender → Turn
sending ps s = record { parts = ps; delivery = None; next = s }

-- so many attempts to connect, and to send the block
abbrev pub attempts : ℕ → ℕ → Attempts
attempts c b = record { connections = c; blocks = b }

-- a sender with the same limits and priority
abbrev pub into : Sender → Attempts → SendPhase → Sender
into s f p = record { limits = s.limits; failed = f; priority = s.priority; phase = p }

-- the sender has begun, or begun afresh: an opening waits for its answer, and no attempt has failed
abbrev pub begun : Sender → Sender
begun s = into s (attempts 0 0) Opening

-- a "fresh" sender, with its limits C and B, has not been started
abbrev pub fresh : ℕ → ℕ → Priority → Sender
fresh c b p = record { limits = attempts c b; failed = attempts 0 0; priority = p; phase = Fresh }

-- From here on s is the sender and b the byte that came.

-- an attempt to connect has failed: an opening while there are attempts left, else the sender gives up
unfoldable pub connection_fails : Sender → Turn
connection_fails s =
    pick (ltb (s.failed.connections + 1) s.limits.connections)
    (sending (opening ∷ []) (into s (attempts (s.failed.connections + 1) s.failed.blocks) Opening))
    (sending [] (into s (attempts s.limits.connections s.failed.blocks) GaveUp))

-- an attempt to send the block has failed: the next begins with an opening while there are attempts left, else the sender
-- gives up
unfoldable pub block_fails : Sender → Turn
block_fails s =
    pick (ltb (s.failed.blocks + 1) s.limits.blocks)
    (sending (opening ∷ []) (into s (attempts 0 (s.failed.blocks + 1)) Opening))
    (sending [] (into s (attempts s.failed.connections s.limits.blocks) GaveUp))

-- both ends have opened: one of low priority "yields", it answers DLE and receives, one of high priority keeps waiting
abbrev pub collision : Priority → Sender → Turn
collision Low s = sending (answer_byte DLE ∷ []) (into s (attempts 0 0) (Receiving (half.at (Inside NotSeen) 0 0)))
collision High s = sending [] s

-- a byte while the answer to an opening is waited for
unfoldable pub opening_byte : Sender → ℕ → Turn
opening_byte s b =
    pick (eqb b DLE) (sending (block ∷ []) (into s s.failed Awaiting))
    (pick (eqb b STX) (collision s.priority s) (connection_fails s))

-- a byte while the answer to the block is waited for
unfoldable pub awaiting_byte : Sender → ℕ → Turn
awaiting_byte s b = pick (eqb b DLE) (sending [] (into s s.failed Sent)) (block_fails s)

-- what the half answers, as a part; it refuses nothing here, since its 1 is given before
abbrev pub answer_parts : Response → List Part
answer_parts half.nothing = []
answer_parts (half.sends b) = answer_byte b ∷ []
answer_parts (half.delivers b n) = answer_byte b ∷ []
answer_parts (half.refuses k) = []

-- the message that it delivers
abbrev pub delivery_of : Response → Option ℕ
delivery_of half.nothing = None
delivery_of (half.sends b) = None
delivery_of (half.delivers b n) = Some n
delivery_of (half.refuses k) = None

-- the half's answer goes out, and more behind it
abbrev pub relaying : Response → List Part → Sender → Turn
relaying r more s = record { parts = answer_parts r ++ more; delivery = delivery_of r; next = s }

-- where the half is at rest after its step, the sender begins afresh, else the yield goes on
abbrev pub at_phase : Phase → Sender → Reaction → Turn
at_phase Rest s r = relaying r.response (opening ∷ []) (begun s)
at_phase (Inside d) s r = relaying r.response [] (into s s.failed (Receiving r.next))
at_phase Waiting s r = relaying r.response [] (into s s.failed (Receiving r.next))

unfoldable pub after_half : Sender → Reaction → Turn
after_half s r = at_phase r.next.phase s r

-- the half's step, and what follows it
abbrev pub half_of : Sender → Outcome → Taken
half_of s o = with (after_half s o.reaction) o.buffer

-- The table, phase by phase. What it does not name sends nothing, and the state is the same.

unfoldable pub fresh_of : SendEvent → Sender → Turn
fresh_of Start s = sending (opening ∷ []) (begun s)
fresh_of (Byte b) s = sending [] s
fresh_of Timer s = sending [] s

unfoldable pub opening_of : SendEvent → Sender → Turn
opening_of Start s = sending [] s
opening_of (Byte b) s = opening_byte s b
opening_of Timer s = connection_fails s

unfoldable pub awaiting_of : SendEvent → Sender → Turn
awaiting_of Start s = sending [] s
awaiting_of (Byte b) s = awaiting_byte s b
awaiting_of Timer s = block_fails s

unfoldable pub receiving_of : SendEvent → LinkState → Sender → List ℕ → Taken
receiving_of Start h s buf = with (sending [] s) buf
receiving_of (Byte b) h s buf = half_of s (receive_of h (heard.Byte b) buf)
receiving_of Timer h s buf = half_of s (receive_of h heard.Timer buf)

abbrev pub in_phase : SendPhase → SendEvent → Sender → List ℕ → Taken
in_phase Fresh e s buf = with (fresh_of e s) buf
in_phase Opening e s buf = with (opening_of e s) buf
in_phase Awaiting e s buf = with (awaiting_of e s) buf
in_phase (Receiving h) e s buf = receiving_of e h s buf
in_phase Sent e s buf = with (sending [] s) buf
in_phase GaveUp e s buf = with (sending [] s) buf

unfoldable pub turn_of : Sender → SendEvent → List ℕ → Taken
turn_of s e buf = in_phase s.phase e s buf

-- the least and the most that a limit may be
abbrev pub least : ℕ
least = 1

abbrev pub most : ℕ
most = 255

-- a limit that is not 1 to 255
unfoldable pub bad_limit : ℕ → Bool
bad_limit n = ltb n least || ltb most n

-- the half, while there is one, is against its buffer
abbrev pub half_against : SendPhase → List ℕ → Bool
half_against Fresh buf = false
half_against Opening buf = false
half_against Awaiting buf = false
half_against (Receiving h) buf = against h.count buf
half_against Sent buf = false
half_against GaveUp buf = false

-- what is refused with 1: a limit that is not 1 to 255, more attempts failed than a limit allows, or the half's own 1
unfoldable pub misset : Sender → List ℕ → Bool
misset s buf =
    bad_limit s.limits.connections
    || bad_limit s.limits.blocks
    || ltb s.limits.connections s.failed.connections
    || ltb s.limits.blocks s.failed.blocks
    || half_against s.phase buf

-- the answer: so many bytes are to be sent; the same, and a message of so many; or a refusal's number
pub data SendResponse : Type 0 where
  sends : ℕ → SendResponse
  delivers : ℕ → ℕ → SendResponse
  refuses : ℕ → SendResponse

-- so many bytes to send, and the message
abbrev pub responding : Option ℕ → ℕ → SendResponse
responding None n = sends n
responding (Some count) n = delivers n count

abbrev pub response_of : Result SendAnswer Refusal → SendResponse
response_of (Ok a) = responding a.message a.sent
response_of (Err r) = refuses (number_of r)

-- the answer and the next state
pub record SendReaction : Type 0 where
  pub response : SendResponse
  pub next : Sender

abbrev pub reaction_of : SendStep → SendReaction
reaction_of r = record { response = response_of r.answer; next = r.state }

-- the answer, the next state, and the buffer and the output afterwards
pub record SendOutcome : Type 0 where
  pub reaction : SendReaction
  pub buffer : List ℕ
  pub output : List ℕ

abbrev pub leaving : SendReaction → List ℕ → List ℕ → SendOutcome
leaving r buf out = record { reaction = r; buffer = buf; output = out }

abbrev pub outcome_of : SendStep → List ℕ → List ℕ → SendOutcome
outcome_of r buf out = leaving (reaction_of r) buf out

-- what goes out, part by part, and the outcome
pub record Sending : Type 0 where
  pub parts : List Part
  pub outcome : SendOutcome

-- a refusal, with the state as it was
abbrev pub refusing : ℕ → Sender → SendReaction
refusing k s = record { response = refuses k; next = s }

-- nothing goes out, and all stays as it was
abbrev pub denied : ℕ → Sender → List ℕ → List ℕ → Sending
denied k s buf out = record { parts = []; outcome = leaving (refusing k s) buf out }

-- the turn is done, with so many bytes to send
abbrev pub done : Turn → ℕ → SendReaction
done t n = record { response = responding t.delivery n; next = t.next }

-- with its parts in the output the turn is done; where they have no room there, the call is refused
abbrev pub by_room : Given → Taken → Sender → List ℕ → List ℕ → Sending
by_room (filled n) t s buf out = record { parts = t.turn.parts; outcome = leaving (done t.turn n) t.buffer out }
by_room (refused k) t s buf out = denied k s buf out

abbrev pub outgoing : Filling → Taken → Sender → List ℕ → Sending
outgoing f t s buf = by_room f.given t s buf f.output

-- one event: 1, then 12 for too much data, then the turn, with 11 where the output has no room for what it sends
unfoldable pub send_of : Sender → SendEvent → List ℕ → List ℕ → List ℕ → Sending
send_of s e d buf out =
    pick (misset s buf) (denied 1 s buf out)
    (pick (ltb max_data (length d)) (denied 12 s buf out)
    (outgoing (fitted (bytes_of d (turn_of s e buf).turn.parts) out) (turn_of s e buf) s buf))
