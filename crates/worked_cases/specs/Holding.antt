-- A statement of each case of a list.
-- Assumes nothing.
use Rattle.std.specs.Prelude.{List, [], ◌∷◌}

-- each case of a list holds
infixr 5 ◌also◌
pub data AllHold {C : Type 0} (Holds : C → Type 0) : List C → Type 0 where
  none : AllHold Holds []
  ◌also◌ : {c : C} {cs : List C} → Holds c → AllHold Holds cs → AllHold Holds (c ∷ cs)
