-- The answer of every call, as one number of 64 bits.
-- Assumes nothing.
use Rattle.std.specs.Prelude.{ℕ, ◌*◌, ◌≤◌, ◌<◌, ◌≡◌, List}
use Rattle.base.specs.Filling.{Given, filled, Filling}
use Rattle.base.specs.Filling as writing
use Rattle.refusal.specs.Numbers.{number_of}
use Rattle.refusal.specs.declared.Refusal.{Refusal}

-- the low 32 bits are a value, and the eight above them are the kind of the answer: what one step of the kind counts
abbrev pub kinds : ℕ
kinds = 4294967296

-- "done": kind 0, with a value
abbrev pub done : ℕ → ℕ
done value = value

-- "not mine": kind 255, and no value
abbrev pub not_mine : ℕ
not_mine = 255 * kinds

-- a refusal: its number is the kind, and there is no value
abbrev pub refused : ℕ → ℕ
refused number = number * kinds

-- the number of a `Refusal` is 1 to 12, and so it is neither "done", whose value is below 2^32, nor "not mine"
pub record RefusalsDiffer : Type 0 where
  pub number : (r : Refusal) → (1 ≤ number_of r) × (number_of r ≤ 12)
  pub from_done : (r : Refusal) (value : ℕ) → value < kinds → refused (number_of r) ≡ done value → ⊥
  pub from_not_mine : (r : Refusal) → refused (number_of r) ≡ not_mine → ⊥

-- of a call that writes: the length that it filled, or a refusal
abbrev pub of_writing : Given → ℕ
of_writing (filled n) = done n
of_writing (writing.refused k) = refused k

-- of a call that writes: the answer, and the output afterwards
pub record Written : Type 0 where
  pub answer : ℕ
  pub output : List ℕ

abbrev pub written : ℕ → List ℕ → Written
written r out = record { answer = r; output = out }

-- what a writer of the library gives and leaves
abbrev pub written_by : Filling → Written
written_by f = written (of_writing f.given) f.output
