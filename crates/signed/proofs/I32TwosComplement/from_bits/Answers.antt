-- `from_bits` at `i32`: the library's cast.
-- Assumes nothing.
use mathlib.Core.Path.{◌∙◌}
use mir.Syntax.{w32}
use mir.Facts.{to_z-of_z}
use Rattle.signed.proofs.Casts.{cast_signed}
use Rattle.signed.proofs.I32TwosComplement.from_bits.Goals as goal

pub returns : goal.returns
returns c =
    let z = c.cast_signed in
    to_z-of_z {w = w32} {z = z.result} (record { sfits = z.type_inv }) ∙ z.ensures ∙ cast_signed w32 c.args.bits
