-- The registers that exist, and their places in a table of values.
-- Assumes nothing.
use mathlib.Core.Path.{◌≡◌, refl, sym, ◌∙◌, ap, subst}
use mathlib.Core.Bool.{Bool, true, false, not, ◌||◌, false≢true}
use mathlib.Core.List.{List, [], ◌∷◌, map}
use Prim.Native.Nat.{ℕ, suc, ◌≤◌, ◌<◌}
use native.Mathlib.Omega.{arith}
use borrow.Author.Tests.{lt-ltb, le-ltb, ltb-true, ltb-false, eqb-true, not-true}
use lib.Dec.{eqb, ltb}
use lib.ListN.{length, get_or, drop, drop_of_length-le}
use Rattle.base.proofs.Choice.{pick_either}
use Rattle.base.proofs.Words.{high_word, low_word}
use Rattle.mop_registers.specs.Rows.{TimeBytes, Row, rows, rows_before, write_of, range_of, table_length, place_of, exists, may_write, takes, factory, FactoryInRange}
use Rattle.mop_registers.specs.Runs.{run_exists}
use Rattle.mop_registers.proofs.Tests.{every, every_at}

pub time_bytes : TimeBytes
time_bytes hour minute byte = rw (high_word hour minute byte, low_word hour minute byte)

pub table_length_lem : table_length ≡ length rows
unfolding table_length
table_length_lem = refl

pub length_factory : length factory ≡ table_length
unfolding factory table_length
length_factory = refl

pub place_exists : (n : ℕ) → place_of n < table_length → exists n ≡ true
unfolding exists
place_exists n h = lt-ltb (place_of n) table_length h

pub place_beyond : (n : ℕ) → table_length ≤ place_of n → exists n ≡ false
unfolding exists
place_beyond n h = le-ltb (place_of n) table_length h

rows_most : (n : ℕ) (l : List Row) → rows_before n l ≤ length l
rows_most n [] = omega arith
rows_most n (r ∷ rs) = pick_either (λ (k : ℕ). k ≤ suc (length rs)) (eqb n r.number) (omega arith) (omega (arith, rows_most n rs))

pub place_most : (n : ℕ) → place_of n ≤ table_length
unfolding place_of table_length
place_most n = rows_most n rows

abbrev numbers_of : List Row → List ℕ
numbers_of l = map (λ r. r.number) l

-- the row at the place of a number that is found has that number
row_found : (n : ℕ) (l : List Row) → rows_before n l < length l → get_or (numbers_of l) (rows_before n l) 0 ≡ n
row_found n [] h = absurd (omega arith)
row_found n (r ∷ rs) h = go (row_found n rs) (eqb n r.number) refl
  where
    go : (rows_before n rs < length rs → get_or (numbers_of rs) (rows_before n rs) 0 ≡ n) → (b : Bool) → eqb n r.number ≡ b →
        get_or (numbers_of (r ∷ rs)) (rows_before n (r ∷ rs)) 0 ≡ n
    go ih true e = rw e (sym (eqb-true n r.number e))
    go ih false e =
        let k : suc (rows_before n rs) < length (r ∷ rs) = rw e at h in
        rw e (ih (omega arith))

module _ (n : ℕ) (there : exists n ≡ true) where
  pub place_bound : place_of n < table_length
  unfolding exists
  place_bound = ltb-true (place_of n) table_length there

  -- the number of the row at a register's place
  number_at : get_or (numbers_of rows) (place_of n) 0 ≡ n
  unfolding place_of table_length
  number_at = row_found n rows place_bound

  -- what a test shows of each number of the table
  by_test : (f : ℕ → Bool) → every f (numbers_of rows) ≡ true → f n ≡ true
  unfolding table_length
  by_test f e = subst (λ (k : ℕ). f k ≡ true) number_at (every_at f (numbers_of rows) e (place_of n) place_bound)

  pub number_bound : n < 65536
  number_bound = ltb-true n 65536 (by_test (λ k. ltb k 65536) refl)

  -- no run of nine exists
  pub no_nine : run_exists n 9 ≡ false
  unfolding run_exists exists place_of table_length
  no_nine = not-true (run_exists n 9) (by_test (λ k. not (run_exists k 9)) refl)

pub factory_in_range : FactoryInRange
unfolding takes factory place_of
factory_in_range n there = by_test n there (λ k. takes k (get_or factory (place_of k) 0)) refl

pub place_apart : (a b : ℕ) → exists a ≡ true → exists b ≡ true → place_of a ≡ place_of b → a ≡ b
place_apart a b there there' e = sym (number_at a there) ∙ ap (λ (p : ℕ). get_or (numbers_of rows) p 0) e ∙ number_at b there'

-- where the next number has a register, its place is the next one
follows : (n : ℕ) → exists n ≡ true → (not (exists (suc n)) || eqb (place_of (suc n)) (suc (place_of n))) ≡ true
unfolding exists place_of table_length
follows n there = by_test n there (λ k. not (exists (suc k)) || eqb (place_of (suc k)) (suc (place_of k))) refl

pub place_next : (n : ℕ) → exists n ≡ true → exists (suc n) ≡ true → place_of (suc n) ≡ suc (place_of n)
place_next n there next = eqb-true (place_of (suc n)) (suc (place_of n)) (rw next at (follows n there))

no_row : (n : ℕ) → exists n ≡ false → drop (place_of n) rows ≡ []
unfolding exists table_length
no_row n e = drop_of_length-le rows (ltb-false (place_of n) table_length e)

-- what does not hold without a row holds of no number but a register's
only_rows : (n : ℕ) (f : List Row → Bool) → f [] ≡ false → f (drop (place_of n) rows) ≡ true → exists n ≡ true
only_rows n f none t = go (exists n) refl
  where
    go : (b : Bool) → exists n ≡ b → exists n ≡ true
    go true e = e
    go false e = absurd (false≢true (sym none ∙ (rw (no_row n e) at t)))

pub written_exists : (n : ℕ) → may_write n ≡ true → exists n ≡ true
unfolding may_write
written_exists n t = only_rows n write_of refl t

pub taken_exists : (n v : ℕ) → takes n v ≡ true → exists n ≡ true
unfolding takes
taken_exists n v t = only_rows n (λ l. range_of l v) refl t

-- a number of which a test does not hold, though it does of each number of the table
pub no_place : (n : ℕ) (f : ℕ → Bool) → every f (numbers_of rows) ≡ true → f n ≡ false → place_of n ≡ table_length
unfolding exists
no_place n f all none = go (exists n) refl
  where
    go : (b : Bool) → exists n ≡ b → place_of n ≡ table_length
    go true there = absurd (false≢true (sym none ∙ by_test n there f all))
    go false e = omega (arith, place_most n, ltb-false (place_of n) table_length e)
