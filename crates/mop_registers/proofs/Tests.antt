-- Tests over several values: both of two, each of a list.
-- Assumes nothing.
use mathlib.Core.Path.{◌≡◌, refl}
use mathlib.Core.Bool.{Bool, true, false, ◌&&◌, false≢true}
use mathlib.Core.List.{List, [], ◌∷◌}
use Prim.Native.Nat.{ℕ, zero, suc, ◌<◌}
use native.Mathlib.Omega.{arith}
use lib.ListN.{length, get_or}
pub use Rattle.base.specs.Private.Tests.{every}

pub both_true : (a b : Bool) → (a && b) ≡ true → (a ≡ true) × (b ≡ true)
both_true true b e = (refl, e)
both_true false b e = absurd (false≢true e)

pub every_at : (f : ℕ → Bool) (l : List ℕ) → every f l ≡ true → (i : ℕ) → i < length l → f (get_or l i 0) ≡ true
every_at f [] e i h = absurd (omega arith)
every_at f (x ∷ xs) e zero h = (both_true (f x) (every f xs) e).0
every_at f (x ∷ xs) e (suc i) h = every_at f xs (both_true (f x) (every f xs) e).1 i (omega arith)
