-- What a destination refuses in the body of a request, what it carries out, and what it answers.
-- Assumes nothing.
use Rattle.std.specs.Prelude.{ℕ, ◌+◌, ◌*◌, not, ◌&&◌, List, eqb, length}
use Rattle.base.specs.Choice.{pick}
use Rattle.mop_registers.specs.Runs.{run_exists, run_may_write, run_takes, writes, reads}
use Rattle.mop_body.specs.Body.{read_start, read_count, write_start, write_count, values_of, reply_with}

-- what a destination says of a body before it carries anything out: it "accepts" the body, or the number of a refusal
pub data Acceptance : Type 0 where
  accepts : Acceptance
  rejects : ℕ → Acceptance

-- the runs of a request: 8 over both, then 9 and 10 over the write run. A body that passed 7 has as many values as its count says
unfoldable pub judged_runs : ℕ → ℕ → ℕ → ℕ → List ℕ → Acceptance
judged_runs rStart rCount wStart wCount values =
    pick (not (run_exists rStart rCount && run_exists wStart wCount)) (rejects 8)
    (pick (not (run_may_write wStart wCount)) (rejects 9)
    (pick (not (run_takes wStart values)) (rejects 10)
    accepts))

-- 7 for the length of a body, then its runs
unfoldable pub judged_body : List ℕ → Acceptance
judged_body body =
    pick (not (eqb (length body) (6 + 2 * write_count body))) (rejects 7)
    (judged_runs (read_start body) (read_count body) (write_start body) (write_count body) (values_of body))

-- the table after all the writes
unfoldable pub after_writes : List ℕ → List ℕ → List ℕ
after_writes body table = writes table (write_start body) (values_of body)

-- the body of the reply, with the values that the read run has in a table
unfoldable pub reply_body : List ℕ → List ℕ → List ℕ
reply_body body table = reply_with body (reads table (read_start body) (read_count body))
