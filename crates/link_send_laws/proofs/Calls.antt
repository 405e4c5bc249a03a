-- One call: one of three refusals, or the turn.
-- Assumes nothing.
use mathlib.Core.Path.{◌≡◌, refl, sym, ap}
use mathlib.Core.Bool.{false, false≢true}
use mathlib.Core.List.{List}
use Prim.Native.Nat.{ℕ, ◌≤◌, ◌<◌}
use native.Mathlib.Omega.{arith}
use borrow.Author.Tests.{ltb-true, ltb-false}
use lib.Dec.{ltb}
use lib.ListN.{length}
use Rattle.std.specs.Prelude.{Option, Some, None}
use Rattle.base.specs.Places.{placed}
use Rattle.base.specs.Filling.{Filling, fitted}
use Rattle.base.proofs.Choice.{pick_by}
use Rattle.link_frame.specs.Frame.{max_data}
use Rattle.link_send.specs.Send.{bytes_of, in_phase, turn_of, misset, Sending, leaving, denied, responding, done, outgoing, send_of}
use Rattle.link_send.specs.declared.SendPhase.{SendPhase}
use Rattle.link_send.specs.declared.Sender.{Sender}
use Rattle.link_send.proofs.Refusals.{Sound, sound}
use Rattle.link_send_laws.specs.Runs.{Call, called_at, bytes_told, is_refused, PartsInOutput}

-- the bytes of the turn's parts
abbrev pub turn_bytes : Sender → Call → List ℕ
turn_bytes s c = bytes_of c.src (turn_of s c.event c.buffer).turn.parts

pub data Came (s : Sender) (c : Call) : Sending → Type 0 where
  setup : Came s c (denied 1 s c.buffer c.output)
  long : Came s c (denied 12 s c.buffer c.output)
  short : length c.output < length (turn_bytes s c) → Came s c (denied 11 s c.buffer c.output)
  turned : Sound s c.buffer → length (turn_bytes s c) ≤ length c.output →
      Came s c
      record {
        parts = (turn_of s c.event c.buffer).turn.parts;
        outcome =
            leaving
            (done (turn_of s c.event c.buffer).turn (length (turn_bytes s c)))
            (turn_of s c.event c.buffer).buffer
            (placed (turn_bytes s c) c.output);
      }

pub came : (s : Sender) (c : Call) → Came s c (called_at s c)
unfolding send_of fitted
came s c =
    pick_by (Came s c) (misset s c.buffer)
    (λ bad. setup)
    (λ good.
    pick_by (Came s c) (ltb max_data (length c.src))
    (λ much. long)
    (λ fits.
    pick_by (λ (f : Filling). Came s c (outgoing f (turn_of s c.event c.buffer) s c.buffer))
    (ltb (length c.output) (length (turn_bytes s c)))
    (λ less. short (ltb-true _ _ less))
    (λ room. turned (sound s c.buffer good) (ltb-false _ _ room))))

told : (x : Option ℕ) (n : ℕ) → bytes_told (responding x n) ≡ n
told None n = refl
told (Some count) n = refl

-- the bytes of what goes out are in the output
module _ (s : Sender) (c : Call) where
  in_places : {r : Sending} → Came s c r → r.outcome.output ≡ placed (bytes_of c.src r.parts) c.output
  unfolding bytes_of placed
  in_places setup = refl
  in_places long = refl
  in_places (short less) = refl
  in_places (turned ok room) = refl

  in_room : {r : Sending} → Came s c r → length (bytes_of c.src r.parts) ≤ length c.output
  unfolding bytes_of
  in_room setup = omega arith
  in_room long = omega arith
  in_room (short less) = omega arith
  in_room (turned ok room) = room

  in_number : {r : Sending} → Came s c r → bytes_told r.outcome.reaction.response ≡ length (bytes_of c.src r.parts)
  unfolding bytes_of
  in_number setup = refl
  in_number long = refl
  in_number (short less) = refl
  in_number (turned ok room) = told (turn_of s c.event c.buffer).turn.delivery _

pub parts_in_output : PartsInOutput
parts_in_output =
    record {
      room = λ s c. in_room s c (came s c);
      places = λ s c. in_places s c (came s c);
      number = λ s c. in_number s c (came s c);
    }

-- a call that is not refused does the turn of its phase
pub turn_next : (s : Sender) (c : Call) {r : Sending} → Came s c r → is_refused r.outcome.reaction.response ≡ false →
    {p : SendPhase} → s.phase ≡ p → r.outcome.reaction.next ≡ (in_phase p c.event s c.buffer).turn.next
unfolding turn_of
turn_next s c setup done h = absurd (false≢true (sym done))
turn_next s c long done h = absurd (false≢true (sym done))
turn_next s c (short less) done h = absurd (false≢true (sym done))
turn_next s c (turned ok room) done h = ap (λ (p : SendPhase). (in_phase p c.event s c.buffer).turn.next) h
