-- A position by two comparisons, it is not below -1 and at most 100; and a signed byte that is widened to be compared.
-- Assumes nothing.
use mathlib.Core.Path.{◌≡◌, refl, sym}
use mathlib.Core.Bool.{true, false, false≢true}
use Prim.Native.Nat.{zero, suc}
use native.Mathlib.Omega.{arith}
use borrow.Author.Tests.{leb-true}
use lib.IntN.{ℤ, pos, negsuc}
use lib.Signed.{le_z}
use mir.Syntax.{w8, w32}
use mir.Val.{SFits, to_z, of_z}
use mir.Facts.{to_z-of_z, sfits_to_z, Fits-of_z, sfits_widen}
use Rattle.gate_answers.specs.Answers.{is_position}

pub position_below : (z : ℤ) → le_z (negsuc 0) z ≡ false → is_position z ≡ false
unfolding is_position
position_below (pos n) h = absurd (false≢true (sym h))
position_below (negsuc zero) h = absurd (false≢true (sym h))
position_below (negsuc (suc n)) h = refl

pub position_upto : (z : ℤ) → le_z (negsuc 0) z ≡ true → is_position z ≡ le_z z (pos 100)
unfolding is_position
position_upto (pos n) h = refl
position_upto (negsuc zero) h = refl
position_upto (negsuc (suc n)) h = absurd (omega (arith, leb-true (suc n) 0 h))

-- a signed byte, as the machine holds it, fits 32 bits and is the same there
module _ (z : ℤ) (f : SFits w8 z) where
  pub widens : SFits w32 (to_z w8 (of_z w8 z))
  widens = sfits_widen {w = w8} {w' = w32} tt (sfits_to_z (Fits-of_z f))

  pub widened : to_z w32 (of_z w32 (to_z w8 (of_z w8 z))) ≡ to_z w8 (of_z w8 z)
  widened = to_z-of_z widens
