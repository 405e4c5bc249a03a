-- The numbers of a width with a sign and without, as the library casts one into the other.
-- Assumes nothing.
use mathlib.Core.Path.{◌≡◌, refl, sym, ap, ◌∙◌}
use mathlib.Core.Bool.{Bool, true, false}
use Prim.Native.Nat.{ℕ, ◌-◌, ◌*◌, ◌^◌}
use native.Mathlib.Omega.{arith}
use borrow.Author.Tests.{ltb-true, ltb-false}
use lib.Dec.{ltb}
use lib.IntN.{ℤ, pos, negsuc}
use lib.Pow.{pow_pos}
use mir.Syntax.{Width, w8, w16, w32, w64, w128}
use mir.Val.{bits, hbits, to_z, of_z}
use Rattle.signed.specs.Signed.{bits_of, signed_of}
use Rattle.signed.specs.Private.Laws.{signed_lower, signed_upper}

-- the largest number of a width
abbrev pub top_of : Width → ℕ
top_of w = 2 ^ bits w - 1

twice : (w : Width) → 2 ^ bits w ≡ 2 * 2 ^ hbits w
twice w8 = refl
twice w16 = refl
twice w32 = refl
twice w64 = refl
twice w128 = refl

pub cast_bits : (w : Width) (z : ℤ) → of_z w z ≡ bits_of (top_of w) z
unfolding bits_of
cast_bits w (pos n) = refl
cast_bits w (negsuc n) = omega arith

cast_half : (t : Bool) (w : Width) (n : ℕ) → ltb n (2 ^ hbits w) ≡ t → to_z w n ≡ signed_of (top_of w) n
cast_half true w n e = rw e (sym (signed_lower (top_of w) n (omega (arith, twice w, ltb-true n (2 ^ hbits w) e))))
cast_half false w n e = rw e (ap negsuc (omega arith) ∙ sym (signed_upper (top_of w) n (omega (arith, twice w, pow_pos (hbits w), ltb-false n (2 ^ hbits w) e))))

pub cast_signed : (w : Width) (n : ℕ) → to_z w n ≡ signed_of (top_of w) n
cast_signed w n = cast_half (ltb n (2 ^ hbits w)) w n refl
