-- Signs and bytes, there and back.
-- Assumes nothing.
use mathlib.Core.Path.{refl}
use mathlib.Core.List.{[], ◌∷◌}
use Prim.Native.Nat.{ℕ, zero, suc, ◌≤◌, ◌<◌}
use native.Mathlib.Omega.{arith}
use lib.IntN.{ℤ, pos, negsuc}
use lib.ListN.{get_or}
use Rattle.std.proofs.lemmas.Nat.{le_bytes_4, from_le_bytes-to_le_bytes_4}
use Rattle.signed.specs.Signed.{bits_of, four_bytes, of_four}
use Rattle.signed.specs.Inverse.{FitsTop, FourBack, BytesBack}
pub use Rattle.signed.specs.Private.Laws.{signed_bits, bits_signed}

-- the number without a sign is one of the width
pub bits_bound : (top : ℕ) (z : ℤ) → FitsTop top z → bits_of top z ≤ top
unfolding bits_of
bits_bound top (pos n) h = omega arith
bits_bound top (negsuc n) h = omega arith

pub four_back : FourBack
unfolding of_four four_bytes
four_back n h = omega (arith, from_le_bytes-to_le_bytes_4 n (omega arith))

four_bounds : (a b c d : ℕ) → a < 0x100 → b < 0x100 → c < 0x100 → d < 0x100 → (i : ℕ) → get_or (a ∷ b ∷ c ∷ d ∷ []) i 0 < 0x100
four_bounds a b c d ha hb hc hd zero = ha
four_bounds a b c d ha hb hc hd (suc zero) = hb
four_bounds a b c d ha hb hc hd (suc (suc zero)) = hc
four_bounds a b c d ha hb hc hd (suc (suc (suc zero))) = hd
four_bounds a b c d ha hb hc hd (suc (suc (suc (suc i)))) = omega arith

pub bytes_back : BytesBack
unfolding of_four four_bytes
bytes_back a b c d ha hb hc hd =
    let bytes = a ∷ b ∷ c ∷ d ∷ [] in
    le_bytes_4 bytes (of_four bytes) refl (four_bounds a b c d ha hb hc hd) (omega arith)
