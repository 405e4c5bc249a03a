-- The telegram of the gate bus, and what writing one gives.
-- Assumes nothing.
use Rattle.std.specs.Prelude.{ℕ, Bool, ◌&&◌, ◌||◌, List, [], ◌∷◌, ◌++◌, eqb, ltb, length}
use Rattle.base.specs.Choice.{pick}
use Rattle.base.specs.Filling.{Filling, denied, fitted}
use Rattle.base.specs.Words.{bytes_of}
use Rattle.crc16.specs.Ccitt.{ccitt_start, ccitt_over}

-- the first byte of every telegram
abbrev pub start_byte : ℕ
start_byte = 0x55

-- the address that nobody has
abbrev pub reserved : ℕ
reserved = 0xFF

-- masters have the addresses from 00 to this one, slaves those above it
abbrev pub last_master : ℕ
last_master = 0x0F

-- the most bytes of data in one telegram
abbrev pub max_data : ℕ
max_data = 253

-- From here on d is the destination, s the source, and n the number of data bytes.

-- a "token" is a telegram without data; it goes only between masters, so that one to or from a slave is refused
unfoldable pub slave_token : ℕ → ℕ → ℕ → Bool
slave_token d s n = eqb n 0 && (ltb last_master d || ltb last_master s)

-- what the check is taken over: start byte, destination, source, number of data bytes, data
unfoldable pub checked : ℕ → ℕ → List ℕ → List ℕ
checked d s bs = start_byte ∷ d ∷ s ∷ length bs ∷ bs

unfoldable pub check_of : ℕ → ℕ → List ℕ → ℕ
check_of d s bs = ccitt_over ccitt_start (checked d s bs)

-- the telegram: all that, then the check as a two-byte number, high byte first
unfoldable pub telegram_of : ℕ → ℕ → List ℕ → List ℕ
telegram_of d s bs = checked d s bs ++ bytes_of (check_of d s bs ∷ [])

-- the addresses that a telegram cannot be written for: FF as either, or those of a token to or from a slave
unfoldable pub bad_addresses : ℕ → ℕ → ℕ → Bool
bad_addresses d s n = eqb d reserved || eqb s reserved || slave_token d s n

-- what writing gives and leaves: 16 for bad addresses, then 7 for too much data, then 11, else the telegram in the first places
unfoldable pub telegram_writing : ℕ → ℕ → List ℕ → List ℕ → Filling
telegram_writing d s bs out =
    pick (bad_addresses d s (length bs)) (denied 16 out)
    (pick (ltb max_data (length bs)) (denied 7 out) (fitted (telegram_of d s bs) out))
