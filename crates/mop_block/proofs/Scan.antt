-- The steps of the code: two neighbours, and the entry at place i with what is left behind it.
-- Assumes nothing.
use mathlib.Core.Path.{◌≡◌, refl, sym}
use mathlib.Core.Bool.{not}
use mathlib.Core.List.{List, [], ◌∷◌}
use Prim.Native.Nat.{ℕ, zero, suc, ◌+◌, ◌≤◌, ◌<◌}
use native.Mathlib.Numerals.{add-one}
use native.Mathlib.Omega.{arith}
use lib.Dec.{ltb, eqb}
use lib.ListN.{length, get_or, drop, drop_of_length-le}
use lib.Seq.{drop-cons}
use borrow.Author.Tests.{lt-ltb, ne_eqb}
use Rattle.mop_block.specs.Block.{stations, zero_ends}
use Rattle.std.specs.List.{list_any}
use Rattle.mop_block.specs.Zipper.{one}
use Rattle.mop_block.proofs.Ends.{ends_single}

-- whether 00s end between two neighbours
pub pair_station : (x y : ℕ) → (x ≡ 0 → ⊥) → zero_ends (x ∷ y ∷ []) ≡ 0
unfolding zero_ends
pair_station zero y d = absurd (d refl)
pair_station (suc a) y d = ends_single y

pub pair_zero : (y : ℕ) → one (not (eqb y 0)) ≡ zero_ends (0 ∷ y ∷ [])
unfolding zero_ends
pair_zero zero = refl
pair_zero (suc a) = rw (ne_eqb (suc a) 0 (λ e. omega arith)) refl

-- an entry that is no 00 comes first of the stations
pub named : (x : ℕ) (xs : List ℕ) → (x ≡ 0 → ⊥) → stations (x ∷ xs) ≡ x ∷ stations xs
unfolding stations
named zero xs d = absurd (d refl)
named (suc a) xs d = refl

-- whether some entry is no 00
pub any_station : (b : List ℕ) → list_any (λ a. not (eqb a 0)) b ≡ ltb 0 (length (stations b))
unfolding stations
any_station [] = refl
any_station (zero ∷ b) = any_station b
any_station (suc a ∷ b) = rw (ne_eqb (suc a) 0 (λ e. omega arith)) (sym (lt-ltb 0 (suc (length (stations b))) (omega arith)))

-- the entry at place i, and what is left behind it
module _ (b : List ℕ) (i : ℕ) where
  module _ (h : i < length b) where
    pub zero_next : get_or b i 0 ≡ 0 → stations (drop i b) ≡ stations (drop (i + 1) b)
    unfolding stations
    zero_next e = rw (add-one, drop-cons b i 0 h, e)

    pub station_next : (get_or b i 0 ≡ 0 → ⊥) → stations (drop i b) ≡ get_or b i 0 ∷ stations (drop (i + 1) b)
    station_next d = rw (add-one, drop-cons b i 0 h) (named (get_or b i 0) (drop (suc i) b) d)

  module _ (h : length b ≤ i) where
    pub stations_end : stations (drop i b) ≡ []
    unfolding stations
    stations_end = rw (drop_of_length-le b h)
