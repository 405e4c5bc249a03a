-- Storing the two-byte numbers that bytes hold: one more of them, and none.
-- Assumes nothing.
use mathlib.Core.Path.{◌≡◌}
use mathlib.Core.List.{List, [], ◌∷◌, ◌++◌}
use Prim.Native.Nat.{ℕ, ◌+◌, ◌<◌, ◌≤◌}
use native.Mathlib.Numerals.{add-one}
use native.Mathlib.Omega.{arith}
use lib.ListN.{length, get_or, set}
use lib.Seq.{sets}
use Rattle.base.specs.Words.{word, words_of}
use Rattle.base.proofs.Words.{words_none}
use Rattle.places.proofs.Copies.{sets_beyond}

module _ (table : List ℕ) (place : ℕ) (bytes : List ℕ) {whole : List ℕ} where
  -- the first two bytes of those that are left
  pub store_step : sets table place (words_of bytes) ≡ whole → (pair rest : List ℕ) → bytes ≡ pair ++ rest → length pair ≡ 2 →
      {v next : ℕ} → v ≡ word (get_or pair 0 0) (get_or pair 1 0) → next ≡ place + 1 → sets (set table place v) next (words_of rest) ≡ whole
  unfolding words_of
  store_step k (high ∷ low ∷ []) rest e h f g = rw (f, g, add-one place) (rw e at k)
  store_step k [] rest e h f g = absurd (omega arith)
  store_step k (high ∷ []) rest e h f g = absurd (omega arith)
  store_step k (high ∷ low ∷ b ∷ bs) rest e h f g = absurd (omega arith)

  -- no place is left, or no two bytes
  pub no_place : sets table place (words_of bytes) ≡ whole → length table ≤ place → table ≡ whole
  no_place k h = rw (sets_beyond table place (words_of bytes) h) at k

  pub no_pair : sets table place (words_of bytes) ≡ whole → length bytes < 2 → table ≡ whole
  no_pair k h = rw (words_none bytes (omega arith)) at k
