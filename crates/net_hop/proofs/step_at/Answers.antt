-- `step_at`: the station's table is a part of the tables.
-- Assumes nothing.
use Rattle.net_hop.proofs.Hops.{stepped_at}
use Rattle.mop_registers.specs.Rows.{table_length}
use native.Mathlib.Omega.{arith}
use mathlib.Core.Path.{◌≡◌, refl}
use Prim.Native.Nat.{ℕ, ◌+◌, ◌-◌, ◌*◌}
use Rattle.net_hop.proofs.step_at.Goals as goal

-- how long the part is
size : (start : ℕ) → (start + table_length) - start ≡ table_length
size start = omega arith

pub returns-in-Ok-Relayed : goal.returns-in-Ok-Relayed
unfolding table_length
returns-in-Ok-Relayed c =
    let a = c.args in
    stepped_at a.own a.place _ _ _ _ _ _ _ _ refl (size (table_length * a.place)) c.step.ensures (rw c.in-Ok-Relayed.field-0-is at c.in-Ok-Relayed.is)

pub returns-in-Ok-Answered : goal.returns-in-Ok-Answered
unfolding table_length
returns-in-Ok-Answered c =
    let a = c.args in
    stepped_at a.own a.place _ _ _ _ _ _ _ _ refl (size (table_length * a.place)) c.step.ensures (rw c.in-Ok-Answered.field-0-is at c.in-Ok-Answered.is)

pub returns-in-Ok-NotMine : goal.returns-in-Ok-NotMine
unfolding table_length
returns-in-Ok-NotMine c =
    let a = c.args in
    stepped_at a.own a.place _ _ _ _ _ _ _ _ refl (size (table_length * a.place)) c.step.ensures (rw c.in-Ok-NotMine.field-0-is at c.in-Ok-NotMine.is)

pub returns-in-Err : goal.returns-in-Err
unfolding table_length
returns-in-Err c =
    let a = c.args in
    stepped_at a.own a.place _ _ _ _ _ _ _ _ refl (size (table_length * a.place)) c.step.ensures c.in-Err.is
