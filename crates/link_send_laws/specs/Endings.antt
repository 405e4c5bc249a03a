-- How a sending ends, and what follows.
-- Assumes nothing.
use Rattle.std.specs.Prelude.{ℕ, ◌+◌, ◌≤◌, ◌≡◌, false, List, [], ◌∷◌}
use Rattle.link_frame.specs.ControlBytes.{STX, DLE}
use Rattle.link_send.specs.Send.{SendResponse, sends, refuses, Sending, attempts, into, least}
use Rattle.link_send.specs.declared.Sender.{Sender}
use Rattle.link_send.specs.declared.SendEvent.{SendEvent}
use Rattle.link_send.specs.declared.SendEvent.TheVariants.{Byte, Timer}
use Rattle.link_send.specs.declared.SendPhase.{SendPhase}
use Rattle.link_send.specs.declared.SendPhase.TheVariants.{Opening, Awaiting, Sent, GaveUp}
use Rattle.link_send_laws.specs.Runs.{Call, called_at, is_refused, after_all}

-- what fails an attempt to connect: the timer, or a byte that is no DLE and no STX
pub data FailsConnection : SendEvent → Type 0 where
  timer : FailsConnection Timer
  byte : (b : ℕ) → (b ≡ DLE → ⊥) → (b ≡ STX → ⊥) → FailsConnection (Byte b)

-- what fails an attempt to send the block: the timer, or a byte that is no DLE
pub data FailsBlock : SendEvent → Type 0 where
  timer : FailsBlock Timer
  byte : (b : ℕ) → (b ≡ DLE → ⊥) → FailsBlock (Byte b)

-- the state after a call; and that the call was not refused
abbrev pub after : Sender → Call → Sender
after s c = (called_at s c).outcome.reaction.next

abbrev pub NotRefused : Sender → Call → Type 0
NotRefused s c = is_refused (called_at s c).outcome.reaction.response ≡ false

-- calls of which so many are not refused and fail an attempt to connect; the others leave the state as it was
pub data FailedConnections : ℕ → Sender → List Call → Type 0 where
  none : {s : Sender} → FailedConnections 0 s []
  stays : {n : ℕ} {s : Sender} {c : Call} {cs : List Call} → after s c ≡ s → FailedConnections n s cs → FailedConnections n s (c ∷ cs)
  fails : {n : ℕ} {s : Sender} {c : Call} {cs : List Call} → FailsConnection c.event → NotRefused s c →
      FailedConnections n (after s c) cs → FailedConnections (n + 1) s (c ∷ cs)

-- a sender that waits for an answer, to an opening or to the block
pub data Waits : SendPhase → Type 0 where
  opening : Waits Opening
  awaiting : Waits Awaiting

-- calls of which so many are not refused and fail an attempt to send the block; the others leave the state as it was, or the sender
-- waits after them with as many failed blocks as before
pub data FailedBlocks : ℕ → Sender → List Call → Type 0 where
  none : {s : Sender} → FailedBlocks 0 s []
  stays : {n : ℕ} {s : Sender} {c : Call} {cs : List Call} → after s c ≡ s → FailedBlocks n s cs → FailedBlocks n s (c ∷ cs)
  waits : {n : ℕ} {s : Sender} {c : Call} {cs : List Call} → Waits (after s c).phase → (after s c).failed.blocks ≡ s.failed.blocks →
      FailedBlocks n (after s c) cs → FailedBlocks n s (c ∷ cs)
  fails : {n : ℕ} {s : Sender} {c : Call} {cs : List Call} → s.phase ≡ Awaiting → FailsBlock c.event → NotRefused s c →
      FailedBlocks n (after s c) cs → FailedBlocks (n + 1) s (c ∷ cs)

-- what is told after the end: nothing to send, or 1, or 12
pub data Quiet : SendResponse → Type 0 where
  nothing : Quiet (sends 0)
  setup : Quiet (refuses 1)
  long : Quiet (refuses 12)

-- nothing goes out, and all stays
pub record Unmoved (s : Sender) (c : Call) (r : Sending) : Type 0 where
  pub response : Quiet r.outcome.reaction.response
  pub parts : r.parts ≡ []
  pub state : r.outcome.reaction.next ≡ s
  pub buffer : r.outcome.buffer ≡ c.buffer
  pub output : r.outcome.output ≡ c.output

pub data Over : SendPhase → Type 0 where
  sent : Over Sent
  gave_up : Over GaveUp

pub record Endings : Type 0 where
  -- C failed connections in one attempt to send the block end in "gave up"
  pub connections_fail : (s : Sender) (cs : List Call) → least ≤ s.limits.connections → s.phase ≡ Opening →
      s.failed.connections ≡ 0 → FailedConnections s.limits.connections s cs →
      after_all s cs ≡ into s (attempts s.limits.connections s.failed.blocks) GaveUp
  -- B failed blocks end in "gave up"
  pub blocks_fail : (s : Sender) (cs : List Call) → least ≤ s.limits.blocks → Waits s.phase → s.failed.blocks ≡ 0 →
      FailedBlocks s.limits.blocks s cs →
      ((after_all s cs).phase ≡ GaveUp) × ((after_all s cs).failed.blocks ≡ s.limits.blocks)
  -- a DLE after the block ends in "sent"
  pub block_answered : (s : Sender) (c : Call) → s.phase ≡ Awaiting → c.event ≡ Byte DLE → NotRefused s c →
      after s c ≡ into s s.failed Sent
  -- after either, each event gets nothing, or 1 or 12, and the state stays
  pub over : (s : Sender) (c : Call) → Over s.phase → Unmoved s c (called_at s c)
