-- `is_route`: the number of stations, then the addresses.
-- Assumes nothing.
use mathlib.Core.Path.{sym, ◌∙◌}
use native.Mathlib.Omega.{arith}
use Rattle.mop_centre.proofs.Routes.{no_station, too_many, by_addresses}
use Rattle.mop_centre.proofs.is_route.Goals as goal

pub returns-in-1-to-31 : goal.returns-in-1-to-31
returns-in-1-to-31 c = c.distinct_addresses.ensures ∙ sym (by_addresses c.args.route.now (omega arith) (omega arith))

pub returns-in_default : goal.returns-in_default
returns-in_default c = sym (no_station c.args.route.now (omega arith))

pub returns-in_default-2 : goal.returns-in_default-2
returns-in_default-2 c = sym (too_many c.args.route.now (omega arith))
