-- A dry run that is not refused gives the one journey of its net.
-- Assumes nothing.
use mathlib.Core.Path.{sym, ◌∙◌, ap}
use Rattle.mop_reader.specs.declared.Reader.TheVariants.{Station}
use Rattle.mop_reader.proofs.ReadBack.{is_written}
use Rattle.net_journey.specs.Journey.{Course}
use Rattle.net_journey.specs.Bounded.{playing, most_transmissions}
use Rattle.net_journey.proofs.Whole.{every_journey, plays_the_journey}
use Rattle.net_hop.specs.Tables.{net_of}
use Rattle.net_dry_run.specs.DryRun.{of_course, run_of, RunsTheJourney}
use Rattle.net_hop.proofs.Tables.{good_net_lem}
use Rattle.net_dry_run.proofs.DryRuns.{run_by}

pub runs_the_journey : RunsTheJourney
unfolding run_of
runs_the_journey tg addresses tables out h set room e =
    let net = net_of addresses tables in
    let good = good_net_lem addresses tables set in
    let the = every_journey net tg good in
    record {
      journey = the;
      gives =
          run_by tg addresses tables out set (is_written Station tg h e).short room (sym e)
          ∙ ap (λ (c : Course). of_course c out) (the.only (playing most_transmissions net tg) (plays_the_journey net tg good));
    }
