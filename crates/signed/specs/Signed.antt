-- Signed numbers in two's complement, and numbers of 32 bits as four bytes, lowest first.
-- Assumes nothing.
use Rattle.std.specs.Prelude.{ℕ, ◌+◌, ◌-◌, ◌*◌, ◌/◌, ◌%◌, List, [], ◌∷◌, ℤ, pos, negsuc, get_or, leb}
use Rattle.base.specs.Choice.{pick}

-- The largest number of a width stands for -1: 255 in one byte, 0xFFFF_FFFF in four. `negsuc n` is -1 - n.
abbrev pub top8 : ℕ
top8 = 0xFF

abbrev pub top32 : ℕ
top32 = 0xFFFF_FFFF

-- the number without a sign that stands for one with a sign, in the width with this largest number
unfoldable pub bits_of : ℕ → ℤ → ℕ
bits_of top (pos n) = n
bits_of top (negsuc n) = top - n

-- and the other way round: the upper half stands for the numbers below 0
unfoldable pub signed_of : ℕ → ℕ → ℤ
signed_of top n = pick (leb n (top / 2)) (pos n) (negsuc (top - n))

-- the four bytes of a number, lowest first
unfoldable pub four_bytes : ℕ → List ℕ
four_bytes n = n % 0x100 ∷ n / 0x100 % 0x100 ∷ n / 0x1_0000 % 0x100 ∷ n / 0x100_0000 % 0x100 ∷ []

-- the number of the first four bytes of a list; a byte that is not there counts as 0
unfoldable pub of_four : List ℕ → ℕ
of_four bs = get_or bs 0 0 + 0x100 * get_or bs 1 0 + 0x1_0000 * get_or bs 2 0 + 0x100_0000 * get_or bs 3 0
