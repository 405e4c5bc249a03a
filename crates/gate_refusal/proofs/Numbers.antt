-- Each number names one refusal.
-- Assumes nothing.
use mathlib.Core.Path.{refl}
use Rattle.gate_refusal.specs.Numbers.{NumbersDiffer}
use Rattle.gate_refusal.specs.Private.Numbers.{told_apart}
use Rattle.gate_refusal.specs.declared.GateRefusal.TheVariants.{Setup, Kind, Length, Position, OutputShort, Check, Address}

-- the law of `Numbered`, for proofs that cite it
pub numbers_differ : NumbersDiffer
numbers_differ = told_apart (elim [ Setup ↦ refl | Kind ↦ refl | Length ↦ refl | Position ↦ refl | OutputShort ↦ refl | Check ↦ refl | Address ↦ refl ])
