-- The numbers of the refusals, and the answers that they make.
-- Assumes nothing.
use mathlib.Core.Path.{◌≡◌}
use Prim.Native.Nat.{ℕ, ◌≤◌, ◌<◌}
use native.Mathlib.Omega.{arith}
use Rattle.refusal.specs.Numbers.{number_of}
use Rattle.refusal.specs.declared.Refusal.{Refusal}
use Rattle.refusal.specs.declared.Refusal.TheVariants.{Setup, HeaderCut, Function, ExtendedCount, Block, Mark, BodyLength, NoRegister, NoWrite, ValueRange, OutputShort, TooLong}
use Rattle.c_answer.specs.Answer.{kinds, done, not_mine, refused, RefusalsDiffer}

number_bound : (r : Refusal) → (1 ≤ number_of r) × (number_of r ≤ 12)
number_bound Setup = (omega arith, omega arith)
number_bound HeaderCut = (omega arith, omega arith)
number_bound Function = (omega arith, omega arith)
number_bound ExtendedCount = (omega arith, omega arith)
number_bound Block = (omega arith, omega arith)
number_bound Mark = (omega arith, omega arith)
number_bound BodyLength = (omega arith, omega arith)
number_bound NoRegister = (omega arith, omega arith)
number_bound NoWrite = (omega arith, omega arith)
number_bound ValueRange = (omega arith, omega arith)
number_bound OutputShort = (omega arith, omega arith)
number_bound TooLong = (omega arith, omega arith)

-- by the number
pub above_values : (n value : ℕ) → 1 ≤ n → value < kinds → refused n ≡ done value → ⊥
above_values n value some small e = omega arith

pub below_not_mine : (n : ℕ) → n < 255 → refused n ≡ not_mine → ⊥
below_not_mine n most e = omega arith

below_255 : (n : ℕ) → n ≤ 12 → n < 255
below_255 n most = omega arith

pub refusals_differ : RefusalsDiffer
refusals_differ = record {
  number = number_bound;
  from_done = λ r value small. above_values (number_of r) value (number_bound r).0 small;
  from_not_mine = λ r. below_not_mine (number_of r) (below_255 _ (number_bound r).1);
}
