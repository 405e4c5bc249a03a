-- The check with the polynomial 1021, top bit first, bit by bit.
-- Assumes nothing.
use Rattle.std.specs.Prelude.{ℕ, ◌*◌, ◌%◌, List, leb}
use Rattle.std.specs.Int.Bits.{bit_xor}
use Rattle.base.specs.Choice.{pick}
use Rattle.crc16.specs.Check.{steps, run_over}

-- the running value of a check over nothing
abbrev pub ccitt_start : ℕ
ccitt_start = 0xFFFF

-- one bit: the value moves up by a bit within its 16, and the polynomial goes into it where the top bit was set
unfoldable pub ccitt_bit : ℕ → ℕ
ccitt_bit c = pick (leb 0x8000 c) (bit_xor (c * 2 % 0x10000) 0x1021) (c * 2 % 0x10000)

-- one byte: it goes into the upper half, and eight bits follow
unfoldable pub ccitt_byte : ℕ → ℕ → ℕ
ccitt_byte c b = steps ccitt_bit 8 (bit_xor c (b * 0x100))

-- any bytes, from any running value on
unfoldable pub ccitt_over : ℕ → List ℕ → ℕ
ccitt_over c bs = run_over ccitt_byte c bs
