-- A test of a byte. Only private contracts and proofs cite this.
-- Assumes nothing.
use Rattle.std.specs.Prelude.{ℕ, Bool, eqb}
use Rattle.link_frame.specs.ControlBytes.{DLE}

abbrev pub is_dle : ℕ → Bool
is_dle b = eqb b DLE
