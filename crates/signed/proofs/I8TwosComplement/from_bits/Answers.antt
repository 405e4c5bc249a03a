-- `from_bits` at `i8`: the library's cast.
-- Assumes nothing.
use mathlib.Core.Path.{◌∙◌}
use mir.Syntax.{w8}
use mir.Facts.{to_z-of_z}
use Rattle.signed.proofs.Casts.{cast_signed}
use Rattle.signed.proofs.I8TwosComplement.from_bits.Goals as goal

pub returns : goal.returns
returns c =
    let z = c.cast_signed in
    to_z-of_z {w = w8} {z = z.result} (record { sfits = z.type_inv }) ∙ z.ensures ∙ cast_signed w8 c.args.bits
