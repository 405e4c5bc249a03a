-- `dry_run`: the refusals in their order, and then the journey.
-- Assumes nothing.
use Rattle.net_dry_run.proofs.DryRuns.{not_set_up, too_long, output_short, run_by}
use Rattle.net_dry_run.specs.DryRun.{dry_run_of, run_of}
use Rattle.net_hop.specs.Tables.{net_of, set_up}
use mathlib.Core.Path.{◌≡◌, sym, ◌∙◌, ap₂}
use mathlib.Core.Bool.{true}
use Rattle.std.specs.Prelude.{Result, Err}
use Rattle.refusal.specs.declared.Refusal.{Refusal}
use Rattle.net_dry_run.specs.declared.Played.{Played}
use Rattle.net_journey.specs.Bounded.{playing, most_transmissions}
use mathlib.Core.List.{List}
use Prim.Native.Nat.{ℕ}
use borrow.Author.Rules.{rules}
use Rattle.net_dry_run.proofs.Outputs.{first_kept, of_course_filled}
use Rattle.net_dry_run.proofs.dry_run.Goals as goal
use Rattle.net_dry_run.proofs.dry_run.Goals.{Else-not-is_set_up}

-- behind the test the net is set up rightly
is_set : (s : Else-not-is_set_up) → set_up s.args.addresses.now s.args.tables.now ≡ true
is_set s = sym s.is_set_up.ensures ∙ s.if-not-is_set_up.false

pub returns-then-not-is_set_up : goal.returns-then-not-is_set_up
returns-then-not-is_set_up c = sym (not_set_up _ _ _ _ (sym c.is_set_up.ensures ∙ c.if-not-is_set_up.true))

pub returns-then-telegram-gt-MAX_TELEGRAM : goal.returns-then-telegram-gt-MAX_TELEGRAM
returns-then-telegram-gt-MAX_TELEGRAM c = sym (too_long _ _ _ _ (is_set (goal.at.returns-then-telegram-gt-MAX_TELEGRAM c).Else-not-is_set_up) c.if-telegram-gt-MAX_TELEGRAM.true)

pub returns-in_default : goal.returns-in_default
returns-in_default c = sym (output_short _ _ _ _ (is_set (goal.at.returns-in_default c).Else-not-is_set_up) c.if-telegram-gt-MAX_TELEGRAM.false (rw c.in_default.is at c.first_chunk_mut.ensures.cases))

pub play-requires : goal.play-requires
play-requires c = record { telegram_value = sym c.in_ok-header.ensures; tables_value = is_set (goal.at.play-requires c).Else-not-is_set_up }

pub returns-in_err-header : goal.returns-in_err-header
unfolding run_of
returns-in_err-header c =
    let is : c.from_residual.result ≡ Err c.in_err-header.field-0.0 = search rules in
    let first = rw c.in-Some.is at c.first_chunk_mut.ensures.cases in
    let set = is_set (goal.at.returns-in_err-header c).Else-not-is_set_up in
    ap₂ (λ (r : Result Played Refusal) (out : List ℕ). dry_run_of r c.args.tables.now out) is (first_kept c.args.out.now first)
    ∙ sym (run_by _ _ _ _ set c.if-telegram-gt-MAX_TELEGRAM.false first.enough c.in_err-header.ensures)

pub returns : goal.returns
unfolding run_of
returns c =
    let first = rw c.in-Some.is at c.first_chunk_mut.ensures.cases in
    let set = is_set (goal.at.returns c).Else-not-is_set_up in
    of_course_filled (playing most_transmissions (net_of c.args.addresses.now c.args.tables.now) c.args.telegram.now) c.args.out.now c.play.ensures.played c.play.ensures.out_len
    ∙ sym (run_by _ _ _ _ set c.if-telegram-gt-MAX_TELEGRAM.false first.enough c.in_ok-header.ensures)
