-- `handle`: the own address and the table, then the header.
-- Assumes nothing.
use Rattle.std.proofs.lemmas.Result.{err_from_is_err_and}
use Rattle.mop_station.proofs.Telegrams.{not_set_up, set_up}
use Rattle.mop_station.specs.Station.{hearing}
use Rattle.mop_reader.proofs.ReadBack.{sound_room}
use Rattle.mop_reader.specs.declared.Reader.TheVariants.{Station}
use mathlib.Core.Path.{sym, ◌∙◌}
use Rattle.mop_station.proofs.handle.Goals as goal

pub returns-then-not-is_station : goal.returns-then-not-is_station
returns-then-not-is_station c = sym (not_set_up _ _ _ _ (sym c.is_station.ensures ∙ c.if-not-is_station.true))

pub returns-in_err-header : goal.returns-in_err-header
unfolding hearing
returns-in_err-header c =
    let e = err_from_is_err_and c.from_residual.result c.from_residual.ensures.1 in
    let set = sym c.is_station.ensures ∙ c.if-not-is_station.false in
    rw (e.1, e.2) (sym (set_up _ _ _ _ set c.in_err-header.ensures))

pub hear-requires : goal.hear-requires
hear-requires c = sound_room Station c.args.telegram.now _ (sym c.in_ok-header.ensures)

pub returns : goal.returns
returns c =
    let set = sym c.is_station.ensures ∙ c.if-not-is_station.false in
    c.hear.ensures ∙ sym (set_up _ _ _ _ set c.in_ok-header.ensures)
