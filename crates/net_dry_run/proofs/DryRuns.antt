-- A dry run, case by case, in the order of its refusals.
-- Assumes nothing.
use mathlib.Core.Path.{◌≡◌}
use mathlib.Core.Bool.{true, false}
use mathlib.Core.List.{List}
use Prim.Native.Nat.{ℕ, ◌≤◌, ◌<◌}
use borrow.Author.Tests.{lt-ltb, le-ltb}
use lib.ListN.{length}
use Rattle.mop_reader.specs.Reading.{Reading, max_telegram, reading}
use Rattle.mop_reader.specs.declared.Reader.TheVariants.{Station}
use Rattle.net_hop.specs.Tables.{set_up}
use Rattle.net_dry_run.specs.DryRun.{outright, leaves, run_output, run_of, dry_run}

module _ (tg addresses tables out : List ℕ) where
  pub not_set_up : set_up addresses tables ≡ false → dry_run tg addresses tables out ≡ leaves (outright 1) tables out
  unfolding dry_run
  not_set_up e = rw e

  module _ (set : set_up addresses tables ≡ true) where
    pub too_long : max_telegram < length tg → dry_run tg addresses tables out ≡ leaves (outright 12) tables out
    unfolding dry_run
    too_long h = rw (set, lt-ltb max_telegram (length tg) h)

    module _ (short : length tg ≤ max_telegram) where
      pub output_short : length out < run_output → dry_run tg addresses tables out ≡ leaves (outright 11) tables out
      unfolding dry_run
      output_short h = rw (set, le-ltb max_telegram (length tg) short, lt-ltb (length out) run_output h)

      -- by what reading gave
      pub run_by : run_output ≤ length out → {r : Reading} → r ≡ reading Station tg → dry_run tg addresses tables out ≡ run_of r tg addresses tables out
      unfolding dry_run
      run_by h e = rw (set, le-ltb max_telegram (length tg) short, le-ltb (length out) run_output h, e)
