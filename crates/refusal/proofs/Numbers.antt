-- Each number names one refusal.
-- Assumes nothing.
use mathlib.Core.Path.{refl}
use Rattle.refusal.specs.Numbers.{NumbersDiffer}
use Rattle.refusal.specs.Private.Numbers.{told_apart}
use Rattle.refusal.specs.declared.Refusal.TheVariants.{Setup, HeaderCut, Function, ExtendedCount, Block, Mark, BodyLength, NoRegister, NoWrite, ValueRange, OutputShort, TooLong}

-- the law of `Numbered`, for proofs that cite it
pub numbers_differ : NumbersDiffer
numbers_differ = told_apart (elim [ Setup ↦ refl | HeaderCut ↦ refl | Function ↦ refl | ExtendedCount ↦ refl | Block ↦ refl | Mark ↦ refl | BodyLength ↦ refl | NoRegister ↦ refl | NoWrite ↦ refl | ValueRange ↦ refl | OutputShort ↦ refl | TooLong ↦ refl ])
