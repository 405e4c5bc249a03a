-- The refusal that a number names.
-- Assumes nothing.
use Prim.Native.Nat.{ℕ}
use mathlib.Core.Path.{◌≡◌, sym, ap, ◌∙◌}
use lib.Dec.{eqb}
use Rattle.base.specs.Choice.{pick}
use Rattle.refusal.specs.Numbers.{number_of, NumbersDiffer}
use Rattle.refusal.specs.declared.Refusal.{Refusal}
use Rattle.refusal.specs.declared.Refusal.TheVariants.{Setup, HeaderCut, Function, ExtendedCount, Block, Mark, BodyLength, NoRegister, NoWrite, ValueRange, OutputShort, TooLong}

-- the refusal that has a number
abbrev pub refusal_of : ℕ → Refusal
refusal_of k =
    pick (eqb k 1) Setup
    (pick (eqb k 2) HeaderCut
    (pick (eqb k 3) Function
    (pick (eqb k 4) ExtendedCount
    (pick (eqb k 5) Block
    (pick (eqb k 6) Mark
    (pick (eqb k 7) BodyLength
    (pick (eqb k 8) NoRegister (pick (eqb k 9) NoWrite (pick (eqb k 10) ValueRange (pick (eqb k 11) OutputShort TooLong))))))))))

-- a way back from its number to each refusal tells them apart
pub told_apart : ((r : Refusal) → refusal_of (number_of r) ≡ r) → NumbersDiffer
told_apart back a b e = sym (back a) ∙ ap refusal_of e ∙ back b
