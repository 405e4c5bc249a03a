-- Bytes written into an output one after the other. Only private contracts cite this.
-- Assumes nothing.
use Rattle.std.specs.Prelude.{ℕ, ◌+◌, List, length}
use Rattle.std.proofs.lemmas.List.Edits.{sets}

-- the next place, and the output
pub record Writing : Type 0 where
  pub at : ℕ
  pub output : List ℕ

abbrev pub writing_of : ℕ → List ℕ → Writing
writing_of at out = record { at = at; output = out }

-- bytes written from a place on
abbrev pub writing : ℕ → List ℕ → List ℕ → Writing
writing at bytes out = writing_of (at + length bytes) (sets out at bytes)
