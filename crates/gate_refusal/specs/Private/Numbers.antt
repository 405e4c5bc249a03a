-- The refusal that a number names.
-- Assumes nothing.
use Prim.Native.Nat.{ℕ}
use mathlib.Core.Path.{◌≡◌, sym, ap, ◌∙◌}
use lib.Dec.{eqb}
use Rattle.base.specs.Choice.{pick}
use Rattle.gate_refusal.specs.Numbers.{number_of, NumbersDiffer}
use Rattle.gate_refusal.specs.declared.GateRefusal.{GateRefusal}
use Rattle.gate_refusal.specs.declared.GateRefusal.TheVariants.{Setup, Kind, Length, Position, OutputShort, Check, Address}

-- the refusal that has a number
abbrev pub refusal_of : ℕ → GateRefusal
refusal_of k =
    pick (eqb k 1) Setup
    (pick (eqb k 3) Kind
    (pick (eqb k 7) Length (pick (eqb k 10) Position (pick (eqb k 11) OutputShort (pick (eqb k 15) Check Address)))))

-- a way back from its number to each refusal tells them apart
pub told_apart : ((r : GateRefusal) → refusal_of (number_of r) ≡ r) → NumbersDiffer
told_apart back a b e = sym (back a) ∙ ap refusal_of e ∙ back b
