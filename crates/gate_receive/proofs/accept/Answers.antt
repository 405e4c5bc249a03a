-- `accept`: the data of the store, put into the output.
-- Assumes nothing.
use mathlib.Core.Path.{sym}
use native.Mathlib.Omega.{arith}
use Rattle.gate_receive.proofs.Rows.{accepted_data, data_put}
use Rattle.gate_receive.proofs.accept.Goals as goal

pub returns : goal.returns
returns c =
    rw (c.start_again-2.ensures, c.put.ensures, data_put c.args.size c.args.store.now c.args.out.now (omega arith) c.if-out-n.false)
    (sym (accepted_data _ _ _ _ c.if-n-eq0.false c.if-out-n.false))
