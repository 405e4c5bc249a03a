-- `take_byte`: a state that does not overcount has no more than so many bytes of data.
-- Assumes nothing.
use mathlib.Core.Path.{sym, ap, ◌∙◌}
use Rattle.gate_receive.specs.Receive.{overcounts}
use Rattle.gate_receive.proofs.Bounds.{data_bounds, low_check_bound}
use Rattle.gate_receive.proofs.take_byte.Goals as goal

pub data_byte-requires : goal.data_byte-requires
data_byte-requires c = (data_bounds _ _ _ _ _ (sym (ap overcounts c.in-AtData.is) ∙ c.requires)).0

pub low_check_byte-requires : goal.low_check_byte-requires
low_check_byte-requires c = low_check_bound _ _ _ _ _ (sym (ap overcounts c.in-AtLowCheck.is) ∙ c.requires)
