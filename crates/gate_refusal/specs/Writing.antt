-- The answer of a call that writes, in numbers.
-- Assumes nothing.
use Rattle.std.specs.Prelude.{List, ℕ, Result}
use Rattle.base.specs.Filling.{Given, given_by, Filling}
use Rattle.gate_refusal.specs.Numbers.{number_of}
use Rattle.gate_refusal.specs.declared.GateRefusal.{GateRefusal}

-- the length that was filled, or the refusal's number
abbrev pub given_of : Result ℕ GateRefusal → Given
given_of = given_by number_of

-- an answer, and the output after it
abbrev pub filling_of : Result ℕ GateRefusal → List ℕ → Filling
filling_of r out = record { given = given_of r; output = out }
