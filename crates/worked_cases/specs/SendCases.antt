-- The worked cases of the sending half, as one table.
-- Assumes nothing.
use Rattle.std.specs.Prelude.{ℕ, zero, suc, ◌≡◌, List, [], ◌∷◌, ◌++◌, replicate}
use Rattle.link_receive.specs.Receive.{at}
use Rattle.link_receive.specs.declared.Dle.TheVariants.{NotSeen}
use Rattle.link_receive.specs.declared.Phase.TheVariants.{Rest, Inside, Waiting}
use Rattle.link_send.specs.Send.{Part, opening, answer_byte, block, SendOutcome, SendResponse, sends, delivers, refusing, leaving, attempts, into, fresh, send_of}
use Rattle.link_send.specs.declared.Priority.TheVariants.{Low, High}
use Rattle.link_send.specs.declared.SendEvent.{SendEvent}
use Rattle.link_send.specs.declared.SendEvent.TheVariants.{Start, Byte, Timer}
use Rattle.link_send.specs.declared.SendPhase.{SendPhase}
use Rattle.link_send.specs.declared.SendPhase.TheVariants.{Opening, Awaiting, Receiving, Sent, GaveUp}
use Rattle.link_send.specs.declared.Sender.{Sender}
use Rattle.link_send_laws.specs.Runs.{Call, until_yield, openings, blocks}
use Rattle.link_send_laws.specs.Cable.{sent_bytes}

-- the data of all cases; its block is 60 10 10 10 03 73
abbrev pub sent_data : List ℕ
sent_data = 0x60 ∷ 0x10 ∷ []

-- an output of 16 places, lent with each event
abbrev pub output : List ℕ
output = replicate 16 0

-- what goes out in each event, what is told in the last one, and the state and the buffer after it
pub record Played : Type 0 where
  pub parts : List (List Part)
  pub response : SendResponse
  pub state : Sender
  pub buffer : List ℕ

-- events one after the other, with the same buffer
unfoldable pub playing : List (List Part) → SendResponse → Sender → List ℕ → List SendEvent → Played
playing ps told s buf [] = record { parts = ps; response = told; state = s; buffer = buf }
playing ps told s buf (e ∷ es) =
    let r = send_of s e sent_data buf output in
    playing (ps ++ (r.parts ∷ [])) r.outcome.reaction.response r.outcome.reaction.next r.outcome.buffer es

-- two ends of the same kind that do the same at the same time, so that each is fed what it sends itself: the sender, its
-- buffer, and what is on its way to it
pub record EqualEnds : Type 0 where
  pub sender : Sender
  pub buffer : List ℕ
  pub coming : List ℕ

abbrev pub ends_after : SendOutcome → List ℕ → EqualEnds
ends_after o coming =
    record { sender = o.reaction.next; buffer = o.buffer; coming = coming ++ sent_bytes o.reaction.response o.output }

-- the next event: a byte that comes, or the timer where none does
abbrev pub ends_next : List ℕ → EqualEnds → EqualEnds
ends_next [] t = ends_after (send_of t.sender Timer sent_data t.buffer output).outcome []
ends_next (b ∷ coming) t = ends_after (send_of t.sender (Byte b) sent_data t.buffer output).outcome coming

unfoldable pub ends_later : ℕ → EqualEnds → EqualEnds
ends_later zero t = t
ends_later (suc n) t = ends_later n (ends_next t.coming t)

abbrev pub ends : Sender → List ℕ → List ℕ → EqualEnds
ends s buf coming = record { sender = s; buffer = buf; coming = coming }

-- an event with the data, no buffer and the output
abbrev pub calling : List SendEvent → List Call
calling [] = []
calling (e ∷ es) = record { event = e; src = sent_data; buffer = []; output = output } ∷ calling es

-- so many openings and so many blocks
pub record Reached : Type 0 where
  pub openings : ℕ
  pub blocks : ℕ

abbrev pub reached : ℕ → ℕ → Reached
reached o b = record { openings = o; blocks = b }

-- a sender in a phase, with so many attempts failed
abbrev pub sender_in : Sender → ℕ → ℕ → SendPhase → Sender
sender_in s c b p = into s (attempts c b) p

pub data SendCase : Type 0 where
  -- a sender, events with a buffer of four places that holds zeros, what goes out in each, what is told in the last one, and the
  -- state and the buffer after it
  plays : Sender → List SendEvent → List (List Part) → SendResponse → Sender → List ℕ → SendCase
  -- a sender, events, and how many openings and blocks go out before the next yield
  reaches : Sender → List SendEvent → ℕ → ℕ → SendCase
  -- two ends of the same kind, a number of events at each, and what both are then
  both_ends : EqualEnds → ℕ → EqualEnds → SendCase
  -- a sender, an event, the length of the data, the places of buffer and output, and the number of the refusal; all stays
  no_send : Sender → SendEvent → ℕ → ℕ → ℕ → ℕ → SendCase

abbrev pub SendHolds : SendCase → Type 0
SendHolds (plays s es parts told after buf) =
    playing [] (sends 0) s (replicate 4 0) es ≡ record { parts = parts; response = told; state = after; buffer = buf }
SendHolds (reaches s es o b) = reached (openings (until_yield s (calling es))) (blocks (until_yield s (calling es))) ≡ reached o b
SendHolds (both_ends t n after) = ends_later n t ≡ after
SendHolds (no_send s e long buf out k) =
    send_of s e (replicate long 0) (replicate buf 0) (replicate out 0)
    ≡ record { parts = []; outcome = leaving (refusing k s) (replicate buf 0) (replicate out 0) }

-- two attempts to connect and two to send the block, at an end of low and at one of high priority
abbrev pub low : Sender
low = fresh 2 2 Low

abbrev pub high : Sender
high = fresh 2 2 High

abbrev pub send_cases : List SendCase
send_cases =
    -- sent at once; an end of either priority does the same while nothing else comes
    plays low (Start ∷ Byte 0x10 ∷ Byte 0x10 ∷ [])
    ((opening ∷ []) ∷ (block ∷ []) ∷ [] ∷ []) (sends 0) (sender_in low 0 0 Sent) (replicate 4 0)
    ∷ plays high (Start ∷ Byte 0x10 ∷ Byte 0x10 ∷ [])
    ((opening ∷ []) ∷ (block ∷ []) ∷ [] ∷ []) (sends 0) (sender_in high 0 0 Sent) (replicate 4 0)
    -- a connection that fails, and is made; a block that fails by a NAK, and is sent once more
    ∷ plays low (Start ∷ Timer ∷ Byte 0x10 ∷ Byte 0x15 ∷ Byte 0x10 ∷ Byte 0x10 ∷ [])
    ((opening ∷ []) ∷ (opening ∷ []) ∷ (block ∷ []) ∷ (opening ∷ []) ∷ (block ∷ []) ∷ [] ∷ []) (sends 0) (sender_in low 0 1 Sent) (replicate 4 0)
    -- an STX after the block fails it, at an end of low priority too
    ∷ plays low (Start ∷ Byte 0x10 ∷ Byte 0x02 ∷ [])
    ((opening ∷ []) ∷ (block ∷ []) ∷ (opening ∷ []) ∷ []) (sends 1) (sender_in low 0 1 Opening) (replicate 4 0)
    -- giving up: two connections that fail; two blocks, with as many as allowed before each; then nothing more goes out
    ∷ plays low (Start ∷ Timer ∷ Byte 0xFF ∷ Byte 0x10 ∷ Start ∷ [])
    ((opening ∷ []) ∷ (opening ∷ []) ∷ [] ∷ [] ∷ [] ∷ []) (sends 0) (sender_in low 2 0 GaveUp) (replicate 4 0)
    ∷ plays low (Start ∷ Timer ∷ Byte 0x10 ∷ Timer ∷ Timer ∷ Byte 0x10 ∷ Byte 0x02 ∷ Byte 0x10 ∷ [])
    ((opening ∷ []) ∷ (opening ∷ []) ∷ (block ∷ []) ∷ (opening ∷ []) ∷ (opening ∷ []) ∷ (block ∷ []) ∷ [] ∷ [] ∷ [])
    (sends 0) (sender_in low 1 2 GaveUp) (replicate 4 0)
    -- the bound is reached: 2 x 3 openings and 3 blocks
    ∷ reaches (fresh 2 3 Low)
    (Start ∷ Timer ∷ Byte 0x10 ∷ Byte 0x15 ∷ Timer ∷ Byte 0x10 ∷ Timer ∷ Byte 0x15 ∷ Byte 0x10 ∷ Timer ∷ Timer ∷ []) 6 3
    -- both ends open: an end of low priority yields, and receives the data E0 05; then it begins afresh, and sends its own
    ∷ plays low (Start ∷ Timer ∷ Byte 0x02 ∷ Byte 0xE0 ∷ Byte 0x05 ∷ Byte 0x10 ∷ Byte 0x03 ∷ Byte 0xF6 ∷ [])
    ((opening ∷ []) ∷ (opening ∷ []) ∷ (answer_byte 0x10 ∷ []) ∷ [] ∷ [] ∷ [] ∷ [] ∷ (answer_byte 0x10 ∷ opening ∷ []) ∷ [])
    (delivers 2 2) (sender_in low 0 0 Opening) (0xE0 ∷ 0x05 ∷ 0 ∷ 0 ∷ [])
    ∷ plays (sender_in low 0 0 Opening) (Byte 0x10 ∷ Byte 0x10 ∷ [])
    ((block ∷ []) ∷ [] ∷ []) (sends 0) (sender_in low 0 0 Sent) (replicate 4 0)
    -- one of high priority keeps waiting, and sends its block at the answer
    ∷ plays high (Start ∷ Byte 0x02 ∷ Byte 0x10 ∷ Byte 0x10 ∷ [])
    ((opening ∷ []) ∷ [] ∷ (block ∷ []) ∷ [] ∷ []) (sends 0) (sender_in high 0 0 Sent) (replicate 4 0)
    -- a yield that ends with a NAK: a wrong check byte, and the timer
    ∷ plays low (Start ∷ Byte 0x02 ∷ Byte 0xE0 ∷ Byte 0x10 ∷ Byte 0x03 ∷ Byte 0x00 ∷ [])
    ((opening ∷ []) ∷ (answer_byte 0x10 ∷ []) ∷ [] ∷ [] ∷ [] ∷ (answer_byte 0x15 ∷ opening ∷ []) ∷ []) (sends 2) (sender_in low 0 0 Opening)
    (0xE0 ∷ 0 ∷ 0 ∷ 0 ∷ [])
    ∷ plays low (Start ∷ Byte 0x02 ∷ Timer ∷ [])
    ((opening ∷ []) ∷ (answer_byte 0x10 ∷ []) ∷ (answer_byte 0x15 ∷ opening ∷ []) ∷ []) (sends 2) (sender_in low 0 0 Opening) (replicate 4 0)
    -- states that no event leads to are taken too: a half at rest in a yield, which a NAK does not answer, and which an STX opens;
    -- and counts that have reached their limits
    ∷ plays (sender_in low 1 1 (Receiving (at Rest 0 0))) (Byte 0x15 ∷ []) ((opening ∷ []) ∷ []) (sends 1) (sender_in low 0 0 Opening) (replicate 4 0)
    ∷ plays (sender_in low 1 1 (Receiving (at Rest 0 0))) (Byte 0x02 ∷ [])
    ((answer_byte 0x10 ∷ []) ∷ []) (sends 1) (sender_in low 1 1 (Receiving (at (Inside NotSeen) 0 0))) (replicate 4 0)
    ∷ plays (sender_in low 2 0 Opening) (Timer ∷ []) ([] ∷ []) (sends 0) (sender_in low 2 0 GaveUp) (replicate 4 0)
    ∷ plays (sender_in low 0 2 Opening) (Byte 0x10 ∷ Byte 0x15 ∷ []) ((block ∷ []) ∷ [] ∷ []) (sends 0) (sender_in low 0 2 GaveUp) (replicate 4 0)
    -- two ends of low priority that have opened: they come to a state with 15 02 on its way to each, and from there, five events
    -- later, to the same state, again and again
    ∷ both_ends (ends (sender_in low 0 0 Opening) (0x02 ∷ []) (0x02 ∷ [])) 3 (ends (sender_in low 0 0 Opening) (0x02 ∷ []) (0x15 ∷ 0x02 ∷ []))
    ∷ both_ends (ends (sender_in low 0 0 Opening) (0x02 ∷ []) (0x15 ∷ 0x02 ∷ [])) 5 (ends (sender_in low 0 0 Opening) (0x02 ∷ []) (0x15 ∷ 0x02 ∷ []))
    -- with one attempt to connect both give up, and so do two ends of high priority
    ∷ both_ends (ends (sender_in (fresh 1 2 Low) 0 0 Opening) (0x02 ∷ []) (0x02 ∷ [])) 5 (ends (sender_in (fresh 1 2 Low) 1 0 GaveUp) (0x02 ∷ []) [])
    ∷ both_ends (ends (sender_in high 0 0 Opening) [] (0x02 ∷ [])) 4 (ends (sender_in high 2 0 GaveUp) [] [])
    -- 1: a limit of 0 or 256, in each phase; more failed than a limit; a half against its buffer, whatever the event; before 12
    ∷ no_send (fresh 0 1 Low) Start 0 0 16 1
    ∷ no_send (fresh 1 0 Low) Timer 0 0 16 1
    ∷ no_send (sender_in (fresh 256 1 High) 0 0 Opening) (Byte 0x10) 0 0 16 1
    ∷ no_send (sender_in (fresh 1 256 High) 0 0 Awaiting) (Byte 0x10) 0 0 16 1
    ∷ no_send (sender_in (fresh 256 1 Low) 0 0 (Receiving (at (Inside NotSeen) 0 0))) Timer 0 4 16 1
    ∷ no_send (sender_in (fresh 0 1 Low) 0 0 Sent) Start 0 0 16 1
    ∷ no_send (sender_in (fresh 1 0 High) 0 0 GaveUp) Start 0 0 16 1
    ∷ no_send (sender_in low 3 0 Sent) Timer 1025 0 16 1
    ∷ no_send (sender_in low 0 3 GaveUp) Timer 0 0 16 1
    ∷ no_send (sender_in low 0 0 (Receiving (at (Inside NotSeen) 5 0))) (Byte 0x00) 0 4 16 1
    ∷ no_send (sender_in low 0 0 (Receiving (at Rest 5 0))) Start 1025 4 16 1
    -- 12: too much data, in each phase, and before 11
    ∷ no_send low Timer 1025 0 16 12
    ∷ no_send (sender_in low 0 0 Opening) (Byte 0x10) 1025 0 0 12
    ∷ no_send (sender_in low 0 0 Awaiting) (Byte 0x10) 1025 0 16 12
    ∷ no_send (sender_in low 0 0 (Receiving (at (Inside NotSeen) 0 0))) (Byte 0x00) 1025 4 16 12
    ∷ no_send (sender_in low 0 0 Sent) Start 1025 0 16 12
    ∷ no_send (sender_in low 2 0 GaveUp) Timer 1025 0 16 12
    -- 11: no place for an opening, five places for the block of three zeros, which has six bytes, and one place for the two bytes
    -- that end a yield
    ∷ no_send low Start 3 0 0 11
    ∷ no_send (sender_in low 0 0 Opening) (Byte 0x10) 3 0 5 11
    ∷ no_send (sender_in low 1 0 (Receiving (at Waiting 2 0x07))) (Byte 0x07) 3 4 1 11
    ∷ []
