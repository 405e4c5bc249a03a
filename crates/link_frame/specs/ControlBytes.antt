-- The control bytes of 3964R.
-- Assumes nothing.
use Rattle.std.specs.Prelude.{ℕ}

abbrev pub STX : ℕ
STX = 0x02

abbrev pub ETX : ℕ
ETX = 0x03

abbrev pub DLE : ℕ
DLE = 0x10

abbrev pub NAK : ℕ
NAK = 0x15
