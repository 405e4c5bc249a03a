-- The 3964R frame of a block of data, and what framing gives.
-- Assumes nothing.
use Rattle.std.specs.Prelude.{ℕ, List, [], ◌∷◌, ◌++◌, eqb, ltb, length}
use Rattle.std.specs.Int.Bits.{bit_xor}
use Rattle.base.specs.Choice.{pick}
use Rattle.base.specs.Filling.{Filling, denied, fitted}
use Rattle.link_frame.specs.ControlBytes.{ETX, DLE}

-- a data byte as it is sent: a DLE twice, another once
unfoldable pub sent : ℕ → List ℕ
sent b = pick (eqb b DLE) (b ∷ b ∷ []) (b ∷ [])

-- the data as it is sent, each byte in turn
unfoldable pub doubled : List ℕ → List ℕ
doubled [] = []
doubled (b ∷ bs) = sent b ++ doubled bs

-- the exclusive or of a number and every byte of a list
unfoldable pub xor_over : ℕ → List ℕ → ℕ
xor_over c [] = c
xor_over c (b ∷ bs) = xor_over (bit_xor c b) bs

-- what the check byte is taken over: the data as it is sent, then DLE ETX
unfoldable pub checked : List ℕ → List ℕ
checked d = doubled d ++ (DLE ∷ ETX ∷ [])

-- the check byte, which starts at 0 and has doubled bytes in it twice
unfoldable pub check_byte : List ℕ → ℕ
check_byte d = xor_over 0 (checked d)

-- the frame: all that, then the check byte, which is never doubled
unfoldable pub frame_of : List ℕ → List ℕ
frame_of d = checked d ++ (check_byte d ∷ [])

-- the most bytes of data in one block
abbrev pub max_data : ℕ
max_data = 1024

-- what framing gives and leaves: 12 for too much data, then 11, else the frame in the first places
unfoldable pub framing : List ℕ → List ℕ → Filling
framing d out = pick (ltb max_data (length d)) (denied 12 out) (fitted (frame_of d) out)
