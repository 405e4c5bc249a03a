-- What a call that writes gives back, and what it leaves in its output.
-- Assumes nothing.
use Rattle.std.specs.Prelude.{ℕ, List, Option, Some, None, Result, Ok, Err, ltb, length}
use Rattle.base.specs.Choice.{pick}
use Rattle.base.specs.Places.{placed}

-- the length that was filled, or the number of a refusal
pub data Given : Type 0 where
  filled : ℕ → Given
  refused : ℕ → Given

-- the answer of a call whose refusals have these numbers
abbrev pub given_by : {R : Type 0} → (R → ℕ) → Result ℕ R → Given
given_by number (Ok n) = filled n
given_by number (Err r) = refused (number r)

-- what the call gives back, and its output afterwards
pub record Filling : Type 0 where
  pub given : Given
  pub output : List ℕ

-- a refusal leaves the output as it was
abbrev pub denied : ℕ → List ℕ → Filling
denied k out = record { given = refused k; output = out }

-- the bytes come first in the output, and what is behind them stays
abbrev pub written : List ℕ → List ℕ → Filling
written bytes out = record { given = filled (length bytes); output = placed bytes out }

-- 11 for an output with fewer places than the bytes need; else the bytes are written
unfoldable pub fitted : List ℕ → List ℕ → Filling
fitted bytes out = pick (ltb (length out) (length bytes)) (denied 11 out) (written bytes out)

-- the length that was filled, or 11 where there was no room; and the output
abbrev pub fitting_of : Option ℕ → List ℕ → Filling
fitting_of (Some n) out = record { given = filled n; output = out }
fitting_of None out = denied 11 out
