-- `good_for`: the block rule, and for the centre that somebody is named.
-- Assumes nothing.
use mathlib.Core.Path.{sym, ◌∙◌}
use Rattle.mop_reader.proofs.Readers.{none_takes, station_takes, centre_takes}
use Rattle.mop_reader.proofs.good_for.Goals as goal

pub returns-then-not-good_block : goal.returns-then-not-good_block
returns-then-not-good_block c = sym (none_takes _ _ (sym c.good_block.ensures ∙ c.if-not-good_block.true))

pub returns-in-Station : goal.returns-in-Station
returns-in-Station c =
    let good = sym c.good_block.ensures ∙ c.if-not-good_block.false in
    rw c.in-Station.is (sym (station_takes _ good))

pub returns-in-Centre : goal.returns-in-Centre
returns-in-Centre c =
    let good = sym c.good_block.ensures ∙ c.if-not-good_block.false in
    rw c.in-Centre.is (c.names_somebody.ensures ∙ sym (centre_takes _ good))
