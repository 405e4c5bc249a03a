-- The answer of a call that writes, in numbers.
-- Assumes nothing.
use Rattle.std.specs.Prelude.{List, ℕ, Result}
use Rattle.base.specs.Filling.{Given, given_by, Filling}
use Rattle.refusal.specs.Numbers.{number_of}
use Rattle.refusal.specs.declared.Refusal.{Refusal}

-- the length that was filled, or the refusal's number
abbrev pub given_of : Result ℕ Refusal → Given
given_of = given_by number_of

-- an answer, and the output after it
abbrev pub filling_of : Result ℕ Refusal → List ℕ → Filling
filling_of r out = record { given = given_of r; output = out }
