-- The body of a request, test by test, and what an accepted one has passed.
-- Assumes nothing.
use mathlib.Core.Path.{◌≡◌, refl}
use mathlib.Core.Bool.{Bool, true, false, not, ◌&&◌, and-false, and-eq-true_iff}
use mathlib.Core.List.{List}
use Prim.Native.Nat.{ℕ, ◌+◌, ◌*◌, ◌<◌}
use native.Mathlib.Omega.{arith}
use borrow.Author.Tests.{eq-eqb, ne_eqb, eqb-true}
use lib.Dec.{eqb, leb}
use lib.ListN.{length, get_or-eq_default}
use Rattle.base.specs.Choice.{pick}
use Rattle.base.proofs.Choice.{pick_either}
use Rattle.mop_registers.specs.Runs.{run_exists, run_may_write, run_takes}
use Rattle.mop_body.specs.Body.{read_start, read_count, write_start, write_count, values_of}
use Rattle.mop_step.specs.Body.{Acceptance, accepts, rejects, judged_runs, judged_body}

module _ (rStart rCount wStart wCount : ℕ) (values : List ℕ) where
  pub no_read_run : run_exists rStart rCount ≡ false → judged_runs rStart rCount wStart wCount values ≡ rejects 8
  unfolding judged_runs
  no_read_run e = rw e

  pub no_write_run : run_exists wStart wCount ≡ false → judged_runs rStart rCount wStart wCount values ≡ rejects 8
  unfolding judged_runs
  no_write_run e = rw (e, and-false (run_exists rStart rCount))

  module _ (read : run_exists rStart rCount ≡ true) (write : run_exists wStart wCount ≡ true) where
    pub not_writable : run_may_write wStart wCount ≡ false → judged_runs rStart rCount wStart wCount values ≡ rejects 9
    unfolding judged_runs
    not_writable e = rw (read, write, e)

    module _ (may : run_may_write wStart wCount ≡ true) where
      pub out_of_range : run_takes wStart values ≡ false → judged_runs rStart rCount wStart wCount values ≡ rejects 10
      unfolding judged_runs
      out_of_range e = rw (read, write, may, e)

      pub runs_accepted : run_takes wStart values ≡ true → judged_runs rStart rCount wStart wCount values ≡ accepts
      unfolding judged_runs
      runs_accepted e = rw (read, write, may, e)

-- a body that is too short for its counts has no write count
short_count : (body : List ℕ) → length body < 6 → write_count body ≡ 0
short_count body h = get_or-eq_default body 0 (omega arith)

module _ (body : List ℕ) where
  pub wrong_length : (length body ≡ 6 + 2 * write_count body → ⊥) → judged_body body ≡ rejects 7
  unfolding judged_body
  wrong_length e = rw (ne_eqb (length body) (6 + 2 * write_count body) e)

  pub short_body : length body < 6 → judged_body body ≡ rejects 7
  short_body h = wrong_length (λ e. omega (arith, short_count body h))

  pub right_length : length body ≡ 6 + 2 * write_count body →
      judged_body body ≡ judged_runs (read_start body) (read_count body) (write_start body) (write_count body) (values_of body)
  unfolding judged_body
  right_length e = rw (eq-eqb (length body) (6 + 2 * write_count body) e)

-- what a destination accepts
pub record Accepted (body : List ℕ) : Type 0 where
  pub long : length body ≡ 6 + 2 * write_count body
  pub readable : run_exists (read_start body) (read_count body) ≡ true
  pub there : run_exists (write_start body) (write_count body) ≡ true
  pub writable : run_may_write (write_start body) (write_count body) ≡ true
  pub in_range : run_takes (write_start body) (values_of body) ≡ true

pub rejects_accepts : {v : Acceptance} {k : ℕ} → v ≡ rejects k → v ≡ accepts → ⊥
rejects_accepts e f = let z : ◌≡◌ {A = ℕ} 0 1 = cc in omega arith

passed : (t : Bool) (k : ℕ) (rest : Acceptance) → pick (not t) (rejects k) rest ≡ accepts → (t ≡ true) × (rest ≡ accepts)
passed true k rest e = (refl, e)
passed false k rest e = absurd (rejects_accepts refl e)

pub accepted : (body : List ℕ) → judged_body body ≡ accepts → Accepted body
unfolding judged_body judged_runs
accepted body e =
    let read = run_exists (read_start body) (read_count body) in
    let write = run_exists (write_start body) (write_count body) in
    let seven = passed (eqb (length body) (6 + 2 * write_count body)) 7 _ e in
    let eight = passed (read && write) 8 _ seven.1 in
    let both = (and-eq-true_iff read write).0 eight.0 in
    let nine = passed (run_may_write (write_start body) (write_count body)) 9 _ eight.1 in
    let ten = passed (run_takes (write_start body) (values_of body)) 10 _ nine.1 in
    record {
      long = eqb-true (length body) (6 + 2 * write_count body) seven.0;
      readable = both.0;
      there = both.1;
      writable = nine.0;
      in_range = ten.0;
    }

-- a body is rejected with 7 to 10
abbrev numbered : ℕ → Bool
numbered k = leb 7 k && leb k 10

abbrev Numbered : Acceptance → Type 0
Numbered v = (k : ℕ) → v ≡ rejects k → numbered k ≡ true

rejects_number : (n : ℕ) → numbered n ≡ true → Numbered (rejects n)
rejects_number n t k e = let same : n ≡ k = cc in rw (← same) t

accepts_none : Numbered accepts
accepts_none k e = let z : ◌≡◌ {A = ℕ} 0 1 = cc in absurd (omega arith)

pub rejected_number : (body : List ℕ) (k : ℕ) → judged_body body ≡ rejects k → (leb 7 k && leb k 10) ≡ true
unfolding judged_body judged_runs
rejected_number body =
    let start = write_start body in
    let count = write_count body in
    pick_either Numbered (not (eqb (length body) (6 + 2 * count))) (rejects_number 7 refl)
    (pick_either Numbered (not (run_exists (read_start body) (read_count body) && run_exists start count)) (rejects_number 8 refl)
    (pick_either Numbered (not (run_may_write start count)) (rejects_number 9 refl)
    (pick_either Numbered (not (run_takes start (values_of body))) (rejects_number 10 refl) accepts_none)))
