-- The rows of the table, one law for each case of a byte.
-- Assumes nothing.
use mathlib.Core.Path.{◌≡◌}
use mathlib.Core.List.{List}
use Prim.Native.Nat.{ℕ}
use native.Mathlib.Omega.{arith}
use borrow.Author.Tests.{eq-eqb, ne_eqb}
use Rattle.link_frame.specs.ControlBytes.{STX, ETX, DLE}
use Rattle.link_receive.specs.Receive.{nothing, sends, delivers, at, to, with, resting, rest_of, data_of, inside_of, waiting_of}
use Rattle.link_receive.specs.declared.Dle.TheVariants.{Seen, NotSeen}
use Rattle.link_receive.specs.declared.Phase.TheVariants.{Inside, Waiting}

module _ (b : ℕ) where
  pub rest_stx : b ≡ STX → rest_of b ≡ to (sends DLE) (at (Inside NotSeen) 0 0)
  unfolding rest_of
  rest_stx e = rw e

module _ (n c b : ℕ) (buf : List ℕ) where
  pub inside_dle : b ≡ DLE → inside_of NotSeen n c b buf ≡ with (to nothing (at (Inside Seen) n c)) buf
  unfolding inside_of
  inside_dle e = simp (eq-eqb _ _ e)

  pub inside_data : (b ≡ DLE → ⊥) → inside_of NotSeen n c b buf ≡ data_of n c b buf
  unfolding inside_of
  inside_data d = simp (ne_eqb _ _ d)

  pub seen_dle : b ≡ DLE → inside_of Seen n c b buf ≡ data_of n c b buf
  unfolding inside_of
  seen_dle e = simp (eq-eqb _ _ e)

  pub seen_etx : b ≡ ETX → inside_of Seen n c b buf ≡ with (to nothing (at Waiting n c)) buf
  unfolding inside_of
  seen_etx e = simp (ne_eqb b DLE (omega arith), eq-eqb _ _ e)

module _ (n c b : ℕ) where
  pub right_check : b ≡ c → waiting_of n c b ≡ resting (delivers DLE n)
  unfolding waiting_of
  right_check e = simp (eq-eqb _ _ e)
