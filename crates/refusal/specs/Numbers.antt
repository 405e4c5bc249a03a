-- The numbers given back with a refusal, as one table.
-- Assumes nothing.
use Rattle.std.specs.Prelude.{ℕ, ◌≡◌}
use Rattle.refusal.specs.declared.Refusal.{Refusal}
use Rattle.refusal.specs.declared.Refusal.TheVariants.{Setup, HeaderCut, Function, ExtendedCount, Block, Mark, BodyLength, NoRegister, NoWrite, ValueRange, OutputShort, TooLong}

-- what each is given for stands at its declaration
abbrev pub number_of : Refusal → ℕ
number_of Setup = 1
number_of HeaderCut = 2
number_of Function = 3
number_of ExtendedCount = 4
number_of Block = 5
number_of Mark = 6
number_of BodyLength = 7
number_of NoRegister = 8
number_of NoWrite = 9
number_of ValueRange = 10
number_of OutputShort = 11
number_of TooLong = 12

-- no two refusals have the same number
abbrev pub NumbersDiffer : Type 0
NumbersDiffer = (a b : Refusal) → number_of a ≡ number_of b → a ≡ b
