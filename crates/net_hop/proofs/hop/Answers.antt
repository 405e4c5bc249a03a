-- `hop`: by the first entry, its place, and the tables.
-- Assumes nothing.
use Rattle.net_hop.proofs.Hops.{hop_zero, hop_nobody, hop_beyond, hop_there}
use Rattle.mop_registers.specs.Rows.{table_length}
use native.Mathlib.Omega.{arith}
use mathlib.Core.Path.{refl, ◌∙◌}
use Rattle.net_hop.proofs.hop.Goals as goal

pub returns-then-entry-eq0 : goal.returns-then-entry-eq0
returns-then-entry-eq0 c = hop_zero _ _ _ _ _ c.first-entry.ensures refl c.if-entry-eq0.true

pub step_at-requires : goal.step_at-requires
unfolding table_length
step_at-requires c = omega arith

pub returns-in-Some : goal.returns-in-Some
unfolding table_length
returns-in-Some c =
    c.step_at.ensures
    ∙ hop_there _ _ _ _ _ c.first-entry.ensures refl c.if-entry-eq0.false c.in-Some.place c.in-Some.ensures (omega arith)

pub returns-in_default : goal.returns-in_default
unfolding table_length
returns-in_default c =
    hop_beyond _ _ _ _ _ c.first-entry.ensures refl c.if-entry-eq0.false c.in-Some.place c.in-Some.ensures (omega arith)

pub returns-in_default-2 : goal.returns-in_default-2
returns-in_default-2 c = hop_nobody _ _ _ _ _ c.first-entry.ensures refl c.if-entry-eq0.false c.in_default.ensures
