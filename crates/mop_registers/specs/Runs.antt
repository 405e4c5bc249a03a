-- "Runs": registers with numbers that follow one another, from a start on.
-- Assumes nothing.
use Rattle.std.specs.Prelude.{ℕ, zero, suc, ◌≤◌, ◌≡◌, Bool, true, ◌&&◌, List, [], ◌∷◌, ◌⊎◌, get_or, set}
use Rattle.mop_registers.specs.Rows.{place_of, exists, may_write, takes}

-- a run exists if every register of it does. So an empty one always exists, and one that passes 65535 never, since no row
-- has such a number
unfoldable pub run_exists : ℕ → ℕ → Bool
run_exists start zero = true
run_exists start (suc count) = exists start && run_exists (suc start) count

-- the most registers of a run that exists: 955 to 962
abbrev pub longest_run : ℕ
longest_run = 8

abbrev pub LongestRun : Type 0
LongestRun = (run_exists 955 longest_run ≡ true) × ((start count : ℕ) → run_exists start count ≡ true → count ≤ longest_run)

-- every register of a run takes writes
unfoldable pub run_may_write : ℕ → ℕ → Bool
run_may_write start zero = true
run_may_write start (suc count) = may_write start && run_may_write (suc start) count

-- every value is in the range of its register
unfoldable pub run_takes : ℕ → List ℕ → Bool
run_takes start [] = true
run_takes start (v ∷ vs) = takes start v && run_takes (suc start) vs

-- a table of values with the values of a run written, register by register
unfoldable pub writes : List ℕ → ℕ → List ℕ → List ℕ
writes table start [] = table
writes table start (v ∷ vs) = writes (set table (place_of start) v) (suc start) vs

-- the values of a run, register by register
unfoldable pub reads : List ℕ → ℕ → ℕ → List ℕ
reads table start zero = []
reads table start (suc count) = get_or table (place_of start) 0 ∷ reads table (suc start) count

-- each register has the value that it had before, or one in its range
abbrev pub KeptOrInRange : List ℕ → List ℕ → Type 0
KeptOrInRange before after =
    (n : ℕ) → exists n ≡ true → (let v = get_or after (place_of n) 0 in (v ≡ get_or before (place_of n) 0) ⊎ (takes n v ≡ true))

-- so it is when a run takes the values that are written
abbrev pub WritesInRange : Type 0
WritesInRange =
    (table : List ℕ) (start : ℕ) (values : List ℕ) → run_takes start values ≡ true → KeptOrInRange table (writes table start values)
