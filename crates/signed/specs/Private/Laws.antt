-- The laws that `TwosComplement` asks of each width: signs, there and back.
-- Assumes nothing.
use mathlib.Core.Path.{◌≡◌, refl, ap, ◌∙◌}
use mathlib.Core.Bool.{Bool, true, false}
use Prim.Native.Nat.{ℕ, ◌-◌, ◌/◌, ◌≤◌, ◌<◌}
use native.Mathlib.Omega.{arith}
use lib.IntN.{pos, negsuc}
use borrow.Author.Tests.{le-leb, lt-leb, leb-true, leb-false}
use lib.Dec.{leb}
use Rattle.signed.specs.Signed.{bits_of, signed_of}
use Rattle.signed.specs.Inverse.{SignedBits, BitsSigned}

-- the lower half of a width's numbers stands for itself
module _ (top n : ℕ) where
  pub signed_lower : n ≤ top / 2 → signed_of top n ≡ pos n
  unfolding signed_of
  signed_lower h = rw (le-leb n (top / 2) h)

  pub signed_upper : top / 2 < n → signed_of top n ≡ negsuc (top - n)
  unfolding signed_of
  signed_upper h = rw (lt-leb n (top / 2) h)

pub signed_bits : SignedBits
unfolding bits_of
signed_bits top (pos n) h = signed_lower top n (omega arith)
signed_bits top (negsuc n) h = signed_upper top (top - n) (omega arith) ∙ ap negsuc (omega arith)

bits_half : (t : Bool) (top n : ℕ) → n ≤ top → leb n (top / 2) ≡ t → bits_of top (signed_of top n) ≡ n
unfolding bits_of
bits_half true top n h e = rw (signed_lower top n (leb-true n (top / 2) e))
bits_half false top n h e = rw (signed_upper top n (leb-false n (top / 2) e)) (omega arith)

pub bits_signed : BitsSigned
bits_signed top n h = bits_half (leb n (top / 2)) top n h refl
