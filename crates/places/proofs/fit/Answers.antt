-- `fit`: without room, and with it.
-- Assumes nothing.
use mathlib.Core.Path.{sym}
use Rattle.base.proofs.Filling.{fitted_short, fitted_stored}
use Rattle.places.proofs.fit.Goals as goal

pub returns-then-out-bytes : goal.returns-then-out-bytes
returns-then-out-bytes c = sym (fitted_short c.args.bytes.now c.args.out.now c.if-out-bytes.true)

pub returns : goal.returns
returns c = rw c.put.ensures (fitted_stored c.args.bytes.now c.args.out.now c.if-out-bytes.false)
