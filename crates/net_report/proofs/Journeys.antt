-- What is told is the one journey of the net.
-- Assumes nothing.
use mathlib.Core.Path.{◌∙◌, ap}
use Rattle.net_journey.specs.Journey.{Course}
use Rattle.net_journey.specs.Bounded.{playing, most_transmissions}
use Rattle.net_journey.proofs.Whole.{every_journey, plays_the_journey}
use Rattle.net_hop.specs.Tables.{net_of}
use Rattle.net_hop.proofs.Tables.{good_net_lem}
use Rattle.net_report.specs.Report.{tells_course, told_of, TellsTheJourney}
use Rattle.net_report.proofs.Reporting.{reports_rest}

pub tells_the_journey : TellsTheJourney
unfolding told_of
tells_the_journey tg addresses tables out h set room order =
    let net = net_of addresses tables in
    let good = good_net_lem addresses tables set in
    let one = every_journey net tg good in
    record {
      journey = one;
      tells_it =
          reports_rest tg addresses tables out room set order
          ∙ ap (λ (c : Course). tells_course c out) (one.only (playing most_transmissions net tg) (plays_the_journey net tg good));
    }
