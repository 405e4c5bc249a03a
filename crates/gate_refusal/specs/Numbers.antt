-- The numbers given back with a refusal on the gate bus, as one table.
-- Assumes nothing.
use Rattle.std.specs.Prelude.{ℕ, ◌≡◌}
use Rattle.gate_refusal.specs.declared.GateRefusal.{GateRefusal}
use Rattle.gate_refusal.specs.declared.GateRefusal.TheVariants.{Setup, Kind, Length, Position, OutputShort, Check, Address}

-- what each is given for stands at its declaration
abbrev pub number_of : GateRefusal → ℕ
number_of Setup = 1
number_of Kind = 3
number_of Length = 7
number_of Position = 10
number_of OutputShort = 11
number_of Check = 15
number_of Address = 16

-- no two refusals have the same number
abbrev pub NumbersDiffer : Type 0
NumbersDiffer = (a b : GateRefusal) → number_of a ≡ number_of b → a ≡ b
