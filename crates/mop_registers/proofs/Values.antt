-- The values of a run in bytes, two for each, taken from a place on.
-- Assumes nothing.
use mathlib.Core.Path.{◌≡◌}
use mathlib.Core.Bool.{true, false}
use mathlib.Core.List.{List}
use Prim.Native.Nat.{ℕ, ◌+◌, ◌-◌, ◌≤◌, ◌<◌}
use native.Mathlib.Numerals.{add-one}
use lib.ListN.{length, get_or, drop, length-drop}
use Rattle.base.specs.Words.{word, words_of}
use Rattle.base.proofs.Words.{words_none, words_next}
use Rattle.mop_registers.specs.Rows.{takes}
use Rattle.mop_registers.specs.Runs.{run_takes}

module _ (bytes : List ℕ) (i : ℕ) where
  -- the value at a place
  abbrev pub value_at : ℕ
  value_at = word (get_or bytes i 0) (get_or bytes (i + 1) 0)

  module _ (n : ℕ) where
    pub takes_on : 1 < length bytes - i → takes n value_at ≡ true → run_takes (n + 1) (words_of (drop (i + 2) bytes)) ≡ run_takes n (words_of (drop i bytes))
    unfolding run_takes
    takes_on h t = rw (add-one n, words_next bytes i h, t)

    pub takes_off : 1 < length bytes - i → takes n value_at ≡ false → run_takes n (words_of (drop i bytes)) ≡ false
    unfolding run_takes
    takes_off h t = rw (words_next bytes i h, t)

    pub takes_over : length bytes - i ≤ 1 → run_takes n (words_of (drop i bytes)) ≡ true
    unfolding run_takes
    takes_over h = rw (words_none (drop i bytes) (rw length-drop h))
