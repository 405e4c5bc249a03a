-- What stands behind a test, or nothing.
-- Assumes nothing.
use mathlib.Core.Path.{◌≡◌, refl}
use mathlib.Core.Bool.{Bool, true, false}
use Rattle.std.specs.Prelude.{Some, None}
use Rattle.base.specs.Choice.{pick}

-- nothing is there where the test fails, and something only where it holds
module _ {A : Type 0} where
  pub none_behind : (b : Bool) (x : A) → None ≡ pick b (Some x) None → b ≡ false
  none_behind true x e = cc
  none_behind false x e = refl

  pub some_behind : (b : Bool) (x : A) {y : A} → Some y ≡ pick b (Some x) None → (b ≡ true) × (y ≡ x)
  some_behind true x e = (refl, cc)
  some_behind false x e = (cc, cc)
