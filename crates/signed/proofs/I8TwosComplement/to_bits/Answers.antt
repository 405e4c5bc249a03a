-- `to_bits` at `i8`: the library's cast.
-- Assumes nothing.
use mathlib.Core.Path.{◌≡◌, ap, ◌∙◌}
use native.Mathlib.Omega.{arith}
use mir.Syntax.{w8}
use mir.Facts.{to_z-of_z}
use Rattle.signed.specs.Signed.{top8, bits_of}
use Rattle.signed.proofs.Casts.{cast_bits}
use Rattle.signed.proofs.I8TwosComplement.to_bits.Goals as goal

pub returns : goal.returns
returns c =
    let bits : c.cast_unsigned.result ≡ bits_of top8 c.args.self = c.cast_unsigned.ensures ∙ cast_bits w8 _ ∙ ap (bits_of top8) (to_z-of_z c.ranges.self) in
    omega (arith, bits)
