-- Two-byte numbers, high byte first.
-- Assumes nothing.
use Rattle.std.specs.Prelude.{ℕ, ◌+◌, ◌*◌, ◌/◌, ◌%◌, List, [], ◌∷◌}

abbrev pub word : ℕ → ℕ → ℕ
word high low = high * 256 + low

abbrev pub high_byte : ℕ → ℕ
high_byte n = n / 256

abbrev pub low_byte : ℕ → ℕ
low_byte n = n % 256

-- the numbers that a list of bytes holds, two bytes for each; an odd last byte makes none
unfoldable pub words_of : List ℕ → List ℕ
words_of [] = []
words_of (high ∷ []) = []
words_of (high ∷ low ∷ bytes) = word high low ∷ words_of bytes

-- the bytes of a list of numbers
unfoldable pub bytes_of : List ℕ → List ℕ
bytes_of [] = []
bytes_of (n ∷ ns) = high_byte n ∷ low_byte n ∷ bytes_of ns
