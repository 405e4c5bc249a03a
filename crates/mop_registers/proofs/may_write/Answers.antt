-- `may_write`: what the row at the place says of writes, and behind the last row no.
-- Assumes nothing.
use mathlib.Core.Path.{refl, sym, ap}
use mathlib.Core.Bool.{not, ◌||◌}
use native.Mathlib.Omega.{arith}
use Prim.Native.Nat.{◌-◌}
use lib.Dec.{eqb}
use borrow.Author.Tests.{ne_eqb, not-true}
use Rattle.mop_registers.specs.Rows.{table_length}
use Rattle.mop_registers.specs.Private.Columns.{write_at}
use Rattle.mop_registers.proofs.Columns.{write_said, tried_at, no_write}
use Rattle.mop_registers.proofs.may_write.Goals as goal

pub returns-in-1 : goal.returns-in-1
unfolding write_at
returns-in-1 c = write_said _ c.place_of.ensures (sym (ap write_at c.in-1.is))

pub returns-in-8-to-17 : goal.returns-in-8-to-17
unfolding write_at table_length
returns-in-8-to-17 c = write_said _ c.place_of.ensures (sym (tried_at write_at (table_length - 8) 8 refl c.place_of.result (omega arith) (omega arith)))

pub returns-in_default : goal.returns-in_default
unfolding write_at
returns-in_default c =
    let place = c.place_of.result in
    let other = ne_eqb place 1 (λ e. omega arith) in
    write_said _ c.place_of.ensures (sym (not-true _ (rw other at (tried_at (λ p. eqb p 1 || not (write_at p)) 8 0 refl place (omega arith) (omega arith)))))

pub returns-in_default-2 : goal.returns-in_default-2
unfolding table_length
returns-in_default-2 c = write_said _ c.place_of.ensures (sym (no_write _ (omega arith)))
