-- Events at a sender one after the other, and what goes out in them.
-- Assumes nothing.
use Rattle.std.specs.Prelude.{ℕ, suc, ◌*◌, ◌≤◌, ◌≡◌, Bool, true, false, ◌&&◌, List, [], ◌∷◌, ◌++◌, length}
use Rattle.base.specs.Choice.{pick}
use Rattle.base.specs.Places.{placed}
use Rattle.link_receive.specs.declared.LinkState.{LinkState}
use Rattle.link_send.specs.Send.{Part, opening, answer_byte, block, bytes_of, SendResponse, sends, delivers, refuses, Sending, send_of}
use Rattle.link_send.specs.declared.Sender.{Sender}
use Rattle.link_send.specs.declared.SendEvent.{SendEvent}
use Rattle.link_send.specs.declared.SendPhase.{SendPhase}
use Rattle.link_send.specs.declared.SendPhase.TheVariants.{Fresh, Opening, Awaiting, Receiving, Sent, GaveUp}

-- one call: an event, and the data, the receive buffer and the output that are lent for it
pub record Call : Type 0 where
  pub event : SendEvent
  pub src : List ℕ
  pub buffer : List ℕ
  pub output : List ℕ

abbrev pub called_at : Sender → Call → Sending
called_at s c = send_of s c.event c.src c.buffer c.output

-- how many bytes a call tells its caller to send
abbrev pub bytes_told : SendResponse → ℕ
bytes_told (sends n) = n
bytes_told (delivers n count) = n
bytes_told (refuses k) = 0

abbrev pub is_refused : SendResponse → Bool
is_refused (sends n) = false
is_refused (delivers n count) = false
is_refused (refuses k) = true

-- What goes out stands in the output: the bytes of the parts have room there and are its first places, as many as are told;
-- where a call is refused there are none.
pub record PartsInOutput : Type 0 where
  pub room : (s : Sender) (c : Call) → length (bytes_of c.src (called_at s c).parts) ≤ length c.output
  pub places : (s : Sender) (c : Call) → (called_at s c).outcome.output ≡ placed (bytes_of c.src (called_at s c).parts) c.output
  pub number : (s : Sender) (c : Call) →
      bytes_told (called_at s c).outcome.reaction.response ≡ length (bytes_of c.src (called_at s c).parts)

-- the state after some calls; nothing else is passed on
unfoldable pub after_all : Sender → List Call → Sender
after_all s [] = s
after_all s (c ∷ cs) = after_all (called_at s c).outcome.reaction.next cs

abbrev pub is_opening : SendPhase → Bool
is_opening Fresh = false
is_opening Opening = true
is_opening Awaiting = false
is_opening (Receiving h) = false
is_opening Sent = false
is_opening GaveUp = false

abbrev pub is_receiving : SendPhase → Bool
is_receiving Fresh = false
is_receiving Opening = false
is_receiving Awaiting = false
is_receiving (Receiving h) = true
is_receiving Sent = false
is_receiving GaveUp = false

-- a call in which the sender "yields": it waited for the answer to an opening, and receives now
abbrev pub yields : Sender → Call → Bool
yields s c = is_opening s.phase && is_receiving (called_at s c).outcome.reaction.next.phase

-- all that goes out up to the next yield, with what the yielding call sends
unfoldable pub until_yield : Sender → List Call → List Part
until_yield s [] = []
until_yield s (c ∷ cs) = (called_at s c).parts ++ pick (yields s c) [] (until_yield (called_at s c).outcome.reaction.next cs)

-- how many openings are among the parts
unfoldable pub openings : List Part → ℕ
openings [] = 0
openings (opening ∷ ps) = suc (openings ps)
openings (answer_byte b ∷ ps) = openings ps
openings (block ∷ ps) = openings ps

-- how many blocks
unfoldable pub blocks : List Part → ℕ
blocks [] = 0
blocks (opening ∷ ps) = blocks ps
blocks (answer_byte b ∷ ps) = blocks ps
blocks (block ∷ ps) = suc (blocks ps)

-- where a bound begins: at a sender that has not been started, or that has yielded
pub data Begins : SendPhase → Type 0 where
  not_started : Begins Fresh
  yielded : (h : LinkState) → Begins (Receiving h)

-- For any calls, whatever their events, data, buffers and outputs: up to the next yield no more than C x B openings and B
-- blocks go out. The opening that ends a yield counts; the answer byte that begins one is no opening.
pub record Bounded : Type 0 where
  pub of_openings : (s : Sender) → Begins s.phase → (cs : List Call) →
      openings (until_yield s cs) ≤ s.limits.connections * s.limits.blocks
  pub of_blocks : (s : Sender) → Begins s.phase → (cs : List Call) → blocks (until_yield s cs) ≤ s.limits.blocks
