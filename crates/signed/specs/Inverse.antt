-- What stands for a number stands for no other: signs and bytes, there and back.
-- Assumes nothing.
use Rattle.std.specs.Prelude.{◌≡◌, [], ◌∷◌, ℕ, ◌*◌, ◌≤◌, ◌<◌, ℤ}
use Rattle.std.specs.Int.Signed.{mag}
use Rattle.signed.specs.Signed.{top32, bits_of, signed_of, four_bytes, of_four}

-- a number with a sign fits the width with this largest number; `mag` of n and of -1 - n is n
abbrev pub FitsTop : ℕ → ℤ → Type 0
FitsTop top z = 2 * mag z < top

-- in every width
abbrev pub SignedBits : Type 0
SignedBits = (top : ℕ) (z : ℤ) → FitsTop top z → signed_of top (bits_of top z) ≡ z

abbrev pub BitsSigned : Type 0
BitsSigned = (top n : ℕ) → n ≤ top → bits_of top (signed_of top n) ≡ n

-- four bytes
abbrev pub FourBack : Type 0
FourBack = (n : ℕ) → n ≤ top32 → of_four (four_bytes n) ≡ n

abbrev pub BytesBack : Type 0
BytesBack =
    (a b c d : ℕ) → a < 0x100 → b < 0x100 → c < 0x100 → d < 0x100 →
    four_bytes (of_four (a ∷ b ∷ c ∷ d ∷ [])) ≡ a ∷ b ∷ c ∷ d ∷ []
