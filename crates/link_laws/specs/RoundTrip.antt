-- A frame read back by the receiving half.
-- Assumes nothing.
use Rattle.std.specs.Prelude.{ℕ, ◌-◌, ◌≤◌, ◌≡◌, List, [], ◌∷◌, ◌++◌, length, replicate}
use Rattle.base.specs.Places.{placed}
use Rattle.link_frame.specs.ControlBytes.{STX, DLE}
use Rattle.link_frame.specs.Frame.{frame_of, max_data}
use Rattle.link_receive.specs.Receive.{Response, nothing, sends, delivers, at}
use Rattle.link_receive.specs.declared.Phase.TheVariants.{Rest}
use Rattle.link_laws.specs.Feeding.{feed}

-- the answers to STX and the frame of data: DLE to the STX, nothing to each byte that follows, but DLE and the message to
-- the last one
abbrev pub frame_answers : List ℕ → List Response
frame_answers d = sends DLE ∷ (replicate (length (frame_of d) - 1) nothing ++ (delivers DLE (length d) ∷ []))

-- Whatever data a block holds: fed STX and its frame, a half at rest with count 0, any running check and a buffer with room
-- is at rest again in the end. The message it delivered is the data, in the first places of the buffer; every place behind
-- has kept its value.
abbrev pub RoundTrip : Type 0
RoundTrip =
    (d buf : List ℕ) (check : ℕ) → length d ≤ max_data → length d ≤ length buf →
    feed (at Rest 0 check) buf (STX ∷ frame_of d)
    ≡ record { answers = frame_answers d; state = at Rest 0 0; buffer = placed d buf }
