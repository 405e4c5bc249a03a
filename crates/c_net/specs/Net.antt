-- The call of a dry run: hanraquin_dry_run.
-- Assumes nothing.
use Rattle.std.specs.Prelude.{ℕ, List, [], ◌∷◌, eqb, length}
use Rattle.base.specs.Choice.{pick}
use Rattle.net_journey.specs.Journey.{Ending, at_zero, at_nobody, refused_with}
use Rattle.net_dry_run.specs.DryRun.{Outcome, played, outright, DryRun, dry_run}
use Rattle.c_answer.specs.Answer.{done, refused}

-- an ending as a number: 0 at an entry 00, 1 at an address that nobody has, else the number of the station's refusal
abbrev pub ending_number : Ending → ℕ
ending_number at_zero = 0
ending_number at_nobody = 1
ending_number (refused_with k) = k

-- the value is the count of transmissions
abbrev pub of_outcome : Outcome → ℕ
of_outcome (played count e n) = done count
of_outcome (outright k) = refused k

-- the result: the count, the ending and the length of the last telegram; a refused call leaves it as it was
abbrev pub result_after : Outcome → List ℕ → List ℕ
result_after (played count e n) before = count ∷ ending_number e ∷ n ∷ []
result_after (outright k) before = before

-- the answer, and the tables, the output and the result afterwards
pub record Ran : Type 0 where
  pub answer : ℕ
  pub tables : List ℕ
  pub output : List ℕ
  pub result : List ℕ

abbrev pub ran : ℕ → List ℕ → List ℕ → List ℕ → Ran
ran r tables out result = record { answer = r; tables = tables; output = out; result = result }

abbrev pub ran_by : DryRun → List ℕ → Ran
ran_by d result = ran (of_outcome d.outcome) d.tables d.output (result_after d.outcome result)

-- hanraquin_dry_run: 1 for a result that does not have three places; else the dry run
unfoldable pub dry_run_call : List ℕ → List ℕ → List ℕ → List ℕ → List ℕ → Ran
dry_run_call telegram addresses tables out result =
    pick (eqb (length result) 3) (ran_by (dry_run telegram addresses tables out) result) (ran (refused 1) tables out result)
