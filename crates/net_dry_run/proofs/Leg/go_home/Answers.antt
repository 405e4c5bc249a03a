-- `go_home`: where the leg of a reply ends.
-- Assumes nothing.
use Rattle.net_dry_run.proofs.Legs.{run_ends, never_turns}
use Rattle.net_dry_run.specs.DryRun.{Outcome, leaves}
use Prim.Native.Nat.{ℕ}
use mathlib.Core.List.{List}
use mathlib.Core.Path.{◌∙◌, ap₂}
use Rattle.net_dry_run.proofs.Leg.go_home.Goals as goal

pub unreachable-requires : goal.unreachable-requires
unreachable-requires c = never_turns c.requires.is_reply (rw c.in-Continue.is at c.walk-stop.ensures).1

pub returns : goal.returns
returns c =
    let ended = c.end.ensures in
    ap₂ (λ (o : Outcome) (out : List ℕ). leaves o c.walk-stop.new.tables out) ended.result_value ended.out_after
    ∙ run_ends (rw c.in-Break.is at c.walk-stop.ensures)
