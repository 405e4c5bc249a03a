-- The receiver of the gate bus: what one event gives, phase by phase.
-- Assumes nothing.
use Rattle.std.specs.Prelude.{ℕ, ◌+◌, ◌-◌, Bool, false, not, ◌||◌, List, [], ◌∷◌, Result, Ok, Err, eqb, leb, ltb, length, set, take}
use Rattle.base.specs.Choice.{pick}
use Rattle.base.specs.Places.{placed}
use Rattle.base.specs.Words.{word}
use Rattle.crc16.specs.Ccitt.{ccitt_start, ccitt_byte, ccitt_over}
use Rattle.gate_refusal.specs.Numbers.{number_of}
use Rattle.gate_refusal.specs.declared.GateRefusal.{GateRefusal}
use Rattle.gate_telegram.specs.Telegram.{start_byte, reserved, max_data, slave_token}
use Rattle.gate_receive.specs.declared.GateState.{GateState}
use Rattle.gate_receive.specs.declared.GateState.TheVariants.{Rest, AtDestination, AtSource, AtLength, AtData, AtLowCheck, OthersSource, OthersLength, Dropping}
use Rattle.events.specs.declared.Event.{Event}
use Rattle.events.specs.declared.Event.TheVariants.{Byte, Timer}
use Rattle.gate_receive.specs.declared.GateAnswer.{GateAnswer}
use Rattle.gate_receive.specs.declared.GateAnswer.TheVariants.{Nothing, Telegram, Token}
use Rattle.gate_receive.specs.declared.GateStep.{GateStep}

-- what the receiver says to an event: nothing; a telegram was accepted, from this source and with so many bytes of data,
-- which are now the first of the output; a token was accepted, from this source; or a refusal, by its number
pub data Response : Type 0 where
  nothing : Response
  telegram : ℕ → ℕ → Response
  token : ℕ → Response
  refuses : ℕ → Response

-- an answer in numbers
abbrev pub response_of : Result GateAnswer GateRefusal → Response
response_of (Ok Nothing) = nothing
response_of (Ok (Telegram s n)) = telegram s n
response_of (Ok (Token s)) = token s
response_of (Err r) = refuses (number_of r)

-- the answer and the next state
pub record Reaction : Type 0 where
  pub response : Response
  pub next : GateState

abbrev pub reaction_of : GateStep → Reaction
reaction_of s = record { response = response_of s.answer; next = s.state }

-- an answer with the state after it
abbrev pub to : Response → GateState → Reaction
to r s = record { response = r; next = s }

-- the receiver "starts again": exactly the fresh state
abbrev pub starting_again : Response → Reaction
starting_again r = to r Rest

-- the answer, the next state, and the store afterwards
pub record Storing : Type 0 where
  pub reaction : Reaction
  pub store : List ℕ

abbrev pub storing : Reaction → List ℕ → Storing
storing r st = record { reaction = r; store = st }

-- the answer, the next state, and the output afterwards
pub record Judging : Type 0 where
  pub reaction : Reaction
  pub output : List ℕ

abbrev pub judging : Reaction → List ℕ → Judging
judging r out = record { reaction = r; output = out }

-- the answer, the next state, and store and output afterwards
pub record Outcome : Type 0 where
  pub reaction : Reaction
  pub store : List ℕ
  pub output : List ℕ

abbrev pub with : Reaction → List ℕ → List ℕ → Outcome
with r st out = record { reaction = r; store = st; output = out }

abbrev pub outcome_of : GateStep → List ℕ → List ℕ → Outcome
outcome_of s st out = with (reaction_of s) st out

-- From here on own is the receiver's address, b the byte that came, d the destination, s the source, n the number of data
-- bytes, k how many of them are stored, c the running check, h the high byte of the check that came, st the store and out the
-- output.

-- at rest the start byte begins a telegram, and every other byte is skipped
unfoldable pub rest_of : ℕ → Reaction
rest_of b = pick (eqb b start_byte) (to nothing AtDestination) (to nothing Rest)

-- the byte after the start byte is the destination, whatever its value. It decides whether the telegram is ours, and is kept;
-- the running check begins with both bytes
unfoldable pub destination_of : ℕ → ℕ → Reaction
destination_of own b =
    pick (eqb b own) (to nothing (AtSource b (ccitt_over ccitt_start (start_byte ∷ b ∷ [])))) (to nothing OthersSource)

-- ours: the source
unfoldable pub source_of : ℕ → ℕ → ℕ → Reaction
source_of d c b = to nothing (AtLength d b (ccitt_byte c b))

-- ours: the number of data bytes, which is refused at once above the most there can be
unfoldable pub length_of : ℕ → ℕ → ℕ → ℕ → Reaction
length_of d s c b = pick (ltb max_data b) (starting_again (refuses 7)) (to nothing (AtData d s b 0 (ccitt_byte c b)))

-- ours: a data byte is stored at the count; after the last one comes the high byte of the check, which decides nothing
unfoldable pub data_of : ℕ → ℕ → ℕ → ℕ → ℕ → ℕ → List ℕ → Storing
data_of d s n k c b st =
    pick (ltb k n) (storing (to nothing (AtData d s n (k + 1) (ccitt_byte c b))) (set st k b))
    (storing (to nothing (AtLowCheck d s n c b)) st)

-- accepted: a token, which needs no output; or the data in the first places of the output, or 11
unfoldable pub accepted_of : ℕ → ℕ → List ℕ → List ℕ → Judging
accepted_of s n st out =
    pick (eqb n 0) (judging (starting_again (token s)) out)
    (pick (ltb (length out) n) (judging (starting_again (refuses 11)) out)
    (judging (starting_again (telegram s n)) (placed (take n st) out)))

-- ours: at the low byte of the check all is judged. 15 for another check than the running one; then 16 for the source FF, or
-- a token to or from a slave, by the destination that was kept
unfoldable pub judged_of : ℕ → ℕ → ℕ → ℕ → ℕ → ℕ → List ℕ → List ℕ → Judging
judged_of d s n c h b st out =
    pick (not (eqb (word h b) c)) (judging (starting_again (refuses 15)) out)
    (pick (eqb s reserved || slave_token d s n) (judging (starting_again (refuses 16)) out) (accepted_of s n st out))

-- another's: so many bytes as its length says, and the two of the check, are dropped unread
unfoldable pub others_length_of : ℕ → Reaction
others_length_of b = to nothing (Dropping (b + 2))

-- a byte that is dropped; nothing left counts as one left
unfoldable pub dropping_of : ℕ → Reaction
dropping_of left = pick (leb left 1) (to nothing Rest) (to nothing (Dropping (left - 1)))

-- a byte, in each phase
unfoldable pub byte_of : ℕ → GateState → ℕ → List ℕ → List ℕ → Outcome
byte_of own Rest b st out = with (rest_of b) st out
byte_of own AtDestination b st out = with (destination_of own b) st out
byte_of own (AtSource d c) b st out = with (source_of d c b) st out
byte_of own (AtLength d s c) b st out = with (length_of d s c b) st out
byte_of own (AtData d s n k c) b st out = let o = data_of d s n k c b st in with o.reaction o.store out
byte_of own (AtLowCheck d s n c h) b st out = let o = judged_of d s n c h b st out in with o.reaction st o.output
byte_of own OthersSource b st out = with (to nothing OthersLength) st out
byte_of own OthersLength b st out = with (others_length_of b) st out
byte_of own (Dropping left) b st out = with (dropping_of left) st out

-- an event; the timer starts the receiver again, with no number
unfoldable pub event_of : ℕ → GateState → List ℕ → Event → List ℕ → Outcome
event_of own s st (Byte b) out = byte_of own s b st out
event_of own s st Timer out = with (starting_again nothing) st out

-- the most bytes left to drop: those of the largest length, and the two of the check
abbrev pub most_left : ℕ
most_left = 257

-- a state that counts more than its telegram can have: a length over the most, more stored than the length, or more left to
-- drop than the longest telegram of another has
unfoldable pub overcounts : GateState → Bool
overcounts Rest = false
overcounts AtDestination = false
overcounts (AtSource d c) = false
overcounts (AtLength d s c) = false
overcounts (AtData d s n k c) = ltb max_data n || ltb n k
overcounts (AtLowCheck d s n c h) = ltb max_data n
overcounts OthersSource = false
overcounts OthersLength = false
overcounts (Dropping left) = ltb most_left left

-- one event: 1 for a store that does not have as many places as there can be data bytes, or a state that overcounts, and all
-- stays; then 16 where our own address is FF; then the event
unfoldable pub receive_of : ℕ → GateState → List ℕ → Event → List ℕ → Outcome
receive_of own s st e out =
    pick (not (eqb (length st) max_data) || overcounts s) (with (to (refuses 1) s) st out)
    (pick (eqb own reserved) (with (starting_again (refuses 16)) st out) (event_of own s st e out))
