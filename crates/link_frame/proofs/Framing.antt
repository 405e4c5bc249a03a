-- The frame as three stores after the doubled data, and each case of what framing gives.
-- Assumes nothing.
use mathlib.Core.Path.{◌≡◌, ap, ◌∙◌}
use mathlib.Core.List.{List, [], ◌∷◌, ◌++◌, append_assoc}
use Prim.Native.Nat.{ℕ, ◌+◌, ◌≤◌, ◌<◌}
use native.Mathlib.Nat.{zero-add}
use native.Mathlib.Numerals.{add-one, add-two}
use borrow.Author.Tests.{lt-ltb, le-ltb}
use lib.ListN.{length, set, length-append}
use lib.Seq.{sets}
use Rattle.base.specs.Filling.{denied, written}
use Rattle.base.specs.Private.Writing.{Writing, writing}
use Rattle.base.proofs.Places.{sets_append, sets_placed}
use Rattle.base.proofs.Filling.{fitted_short, fitted_room}
use Rattle.link_frame.specs.ControlBytes.{ETX, DLE}
use Rattle.link_frame.specs.Frame.{doubled, checked, check_byte, frame_of, framing}
use Rattle.refusal.specs.Writing.{filling_of}
use Rattle.std.specs.Prelude.{Ok}

-- the frame as the doubled data and three bytes more
pub frame_bytes : (d : List ℕ) → frame_of d ≡ doubled d ++ (DLE ∷ ETX ∷ check_byte d ∷ [])
unfolding frame_of checked
frame_bytes d = append_assoc (doubled d) (DLE ∷ ETX ∷ []) (check_byte d ∷ [])

pub length_frame : (d : List ℕ) → length (frame_of d) ≡ length (doubled d) + 3
length_frame d = rw (frame_bytes d) (simp length-append)

-- what the stores of DLE, ETX and the check byte leave
abbrev pub closed : ℕ → ℕ → List ℕ → List ℕ
closed n c l = set (set (set l n DLE) (n + 1) ETX) (n + 2) c

module _ (d out : List ℕ) where
  frame_stores : closed (length (doubled d)) (check_byte d) (sets out 0 (doubled d)) ≡ sets out 0 (frame_of d)
  frame_stores = rw (frame_bytes d, sets_append out 0 (doubled d), zero-add, add-one, add-two)

  -- the three stores behind the doubled data make the frame
  pub frame_written : {w : Writing} → w ≡ writing 0 (doubled d) out → length (doubled d) + 3 ≤ length out →
      filling_of (Ok (w.at + 3)) (closed w.at (check_byte d) w.output) ≡ written (frame_of d) out
  frame_written e h =
      ap (λ (w : Writing). filling_of (Ok (w.at + 3)) (closed w.at (check_byte d) w.output)) e
      ∙ rw (zero-add (length (doubled d)), frame_stores, ← length_frame d, sets_placed (frame_of d) out (rw length_frame h))

  pub framing_long : 1024 < length d → framing d out ≡ denied 12 out
  unfolding framing
  framing_long h = simp (lt-ltb _ _ h)

  module _ (fits : length d ≤ 1024) where
    pub framing_short : length out < length (doubled d) + 3 → framing d out ≡ denied 11 out
    unfolding framing
    framing_short h = simp (le-ltb 1024 (length d) fits) (fitted_short (frame_of d) out (rw length_frame h))

    pub framing_room : length (doubled d) + 3 ≤ length out → framing d out ≡ written (frame_of d) out
    unfolding framing
    framing_room h = simp (le-ltb 1024 (length d) fits) (fitted_room (frame_of d) out (rw length_frame h))
