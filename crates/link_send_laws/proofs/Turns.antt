-- Calls that are not refused, outside a yield: with data for one block and room for its frame, the turn is done.
-- Assumes nothing.
use mathlib.Core.Path.{◌≡◌, refl}
use mathlib.Core.Bool.{false}
use mathlib.Core.List.{List, [], ◌∷◌, append-nil}
use Prim.Native.Nat.{ℕ, ◌+◌, ◌≤◌}
use native.Mathlib.Omega.{arith}
use borrow.Author.Tests.{le-ltb}
use lib.Dec.{ltb, eqb}
use lib.ListN.{length}
use Rattle.base.specs.Places.{placed}
use Rattle.base.specs.Filling.{fitted}
use Rattle.base.proofs.Choice.{pick_either}
use Rattle.link_frame.specs.ControlBytes.{STX, DLE}
use Rattle.link_frame.specs.Frame.{frame_of, max_data}
use Rattle.link_frame.proofs.Framing.{length_frame}
use Rattle.link_send.specs.Send.{Part, opening, answer_byte, block, part_bytes, bytes_of, Turn, with, into, connection_fails, block_fails, collision, opening_byte, awaiting_byte, fresh_of, opening_of, awaiting_of, turn_of, bad_limit, half_against, misset, Sending, leaving, done, send_of}
use Rattle.link_send.specs.declared.Attempts.{Attempts}
use Rattle.link_send.specs.declared.Priority.{Priority}
use Rattle.link_send.specs.declared.Priority.TheVariants.{Low, High}
use Rattle.link_send.specs.declared.SendEvent.{SendEvent}
use Rattle.link_send.specs.declared.SendEvent.TheVariants.{Start, Byte, Timer}
use Rattle.link_send.specs.declared.SendPhase.TheVariants.{Fresh, Opening, Awaiting}
use Rattle.link_send.specs.declared.Sender.{Sender}
use Rattle.link_send_laws.specs.Runs.{Call, called_at}
use Rattle.link_send_laws.specs.Cable.{Usable}

-- the turn is done
abbrev pub doing : Turn → Call → Sending
doing t c =
    record {
      parts = t.parts;
      outcome =
          leaving (done t (length (bytes_of c.src t.parts))) c.buffer (placed (bytes_of c.src t.parts) c.output);
    }

pub call_done : (s : Sender) (c : Call) (t : Turn) → misset s c.buffer ≡ false → turn_of s c.event c.buffer ≡ with t c.buffer →
    length c.src ≤ max_data → length (bytes_of c.src t.parts) ≤ length c.output → called_at s c ≡ doing t c
unfolding send_of fitted
call_done s c t good turn fits room = simp (good, le-ltb _ _ fits, turn, le-ltb _ _ room)

-- a usable sender is not refused, where there is no half against its buffer
pub not_misset : (s : Sender) (buf : List ℕ) → Usable s → half_against s.phase buf ≡ false → misset s buf ≡ false
unfolding misset bad_limit
not_misset s buf u agrees =
    simp (le-ltb _ _ u.connections.0, le-ltb _ _ u.connections.1, le-ltb _ _ u.blocks.0, le-ltb _ _ u.blocks.1, le-ltb _ _ u.failed.0, le-ltb _ _ u.failed.1, agrees)

module _ (d : List ℕ) where
  -- parts that are no longer than the frame
  abbrev Fits : List Part → Type 0
  Fits ps = length (bytes_of d ps) ≤ length (frame_of d)

  abbrev pub Small : Turn → Type 0
  Small t = Fits t.parts

  small_none : Fits []
  unfolding bytes_of
  small_none = omega arith

  small_opening : Fits (opening ∷ [])
  unfolding bytes_of part_bytes
  small_opening = omega (arith, length_frame d)

  small_answer : (b : ℕ) → Fits (answer_byte b ∷ [])
  unfolding bytes_of part_bytes
  small_answer b = omega (arith, length_frame d)

  small_block : Fits (block ∷ [])
  unfolding bytes_of part_bytes
  small_block = rw (append-nil (frame_of d)) (omega arith)

  module _ (s : Sender) where
    small_connection : Small (connection_fails s)
    unfolding connection_fails
    small_connection = pick_either Small (ltb (s.failed.connections + 1) s.limits.connections) small_opening small_none

    small_collision : (p : Priority) → Small (collision p s)
    small_collision Low = small_answer DLE
    small_collision High = small_none

    small_failure : Small (block_fails s)
    unfolding block_fails
    small_failure = pick_either Small (ltb (s.failed.blocks + 1) s.limits.blocks) small_opening small_none

    pub fresh_small : (e : SendEvent) → Small (fresh_of e s)
    unfolding fresh_of
    fresh_small Start = small_opening
    fresh_small (Byte b) = small_none
    fresh_small Timer = small_none

    pub opening_small : (e : SendEvent) → Small (opening_of e s)
    unfolding opening_of opening_byte
    opening_small Start = small_none
    opening_small (Byte b) =
        pick_either Small (eqb b DLE) small_block (pick_either Small (eqb b STX) (small_collision s.priority) small_connection)
    opening_small Timer = small_connection

    pub awaiting_small : (e : SendEvent) → Small (awaiting_of e s)
    unfolding awaiting_of awaiting_byte
    awaiting_small Start = small_none
    awaiting_small (Byte b) = pick_either Small (eqb b DLE) small_none small_failure
    awaiting_small Timer = small_failure

-- From here on the sender stands in a phase that is known.
module _ (s : Sender) (f : Attempts) (c : Call) (fits : length c.src ≤ max_data) (room : length (frame_of c.src) ≤ length c.output) where
  pub fresh_call : Usable (into s f Fresh) → called_at (into s f Fresh) c ≡ doing (fresh_of c.event (into s f Fresh)) c
  unfolding turn_of
  fresh_call u =
      let small = fresh_small c.src (into s f Fresh) c.event in
      call_done (into s f Fresh) c _ (not_misset _ _ u refl) refl fits (omega (arith, small))

  pub opening_call : Usable (into s f Opening) → called_at (into s f Opening) c ≡ doing (opening_of c.event (into s f Opening)) c
  unfolding turn_of
  opening_call u =
      let small = opening_small c.src (into s f Opening) c.event in
      call_done (into s f Opening) c _ (not_misset _ _ u refl) refl fits (omega (arith, small))

  pub awaiting_call : Usable (into s f Awaiting) → called_at (into s f Awaiting) c ≡ doing (awaiting_of c.event (into s f Awaiting)) c
  unfolding turn_of
  awaiting_call u =
      let small = awaiting_small c.src (into s f Awaiting) c.event in
      call_done (into s f Awaiting) c _ (not_misset _ _ u refl) refl fits (omega (arith, small))
