-- The table of places: what stands in it at an address.
-- Assumes nothing.
use mathlib.Core.Path.{◌≡◌, refl, sym, ◌∙◌, ap}
use mathlib.Core.Bool.{Bool, true, false, not, ◌&&◌, ◌||◌, and-eq-true_iff}
use mathlib.Core.List.{List, [], ◌∷◌}
use Prim.Native.Nat.{ℕ, suc, ◌+◌, ◌≤◌, ◌<◌}
use native.Mathlib.Nat.{add-zero, add-suc, suc-add}
use native.Mathlib.Numerals.{add-one}
use native.Mathlib.Omega.{arith}
use borrow.Author.Tests.{eqb-true, eqb-false, not-true}
use lib.Dec.{eqb}
use lib.ListN.{length, get_or, drop, set, replicate, length-set, drop_of_length-le}
use lib.Seq.{drop-cons, take_all, get_or-set_same, get_or-set_other}
use Rattle.base.specs.Choice.{pick}
use Rattle.base.proofs.Tests.{neither}
use Rattle.base.proofs.Places.{get_d_all}
use Rattle.mop_block.specs.Block.{is_address, has, distinct_addresses}
use Rattle.net_hop.specs.Tables.{max_stations}
use Rattle.net_hop.specs.Hop.{placing, bytes, places_of}
use Rattle.net_hop.proofs.Tables.{place_in}

-- the loop: what is left gives the whole
module _ (list places : List ℕ) (i : ℕ) {whole : List ℕ} (so : placing places i (drop i list) ≡ whole) where
  pub place_step : i < length list → placing (set places (get_or list i 0) (i + 1)) (i + 1) (drop (i + 1) list) ≡ whole
  unfolding placing
  place_step h = rw (add-one i) (sym (ap (placing places i) (drop-cons list i 0 h)) ∙ so)

  pub place_none : length list ≤ i → places ≡ whole
  unfolding placing
  place_none h = sym (ap (placing places i) (drop_of_length-le list h)) ∙ so

module _ (a : ℕ) where
  -- a byte that is no address of the list
  kept_at : (places : List ℕ) (n : ℕ) (list : List ℕ) → has a list ≡ false → get_or (placing places n list) a 0 ≡ get_or places a 0
  unfolding placing has
  kept_at places n [] e = refl
  kept_at places n (x ∷ rest) e =
      let both = neither (eqb a x) (has a rest) e in
      kept_at (set places x (suc n)) (suc n) rest both.1 ∙ get_or-set_other places x a (suc n) 0 (eqb-false a x both.0)

  -- an address of it, which stands there once
  placed_by : (places : List ℕ) (n x : ℕ) (rest : List ℕ) → a < length places → (t : Bool) → eqb a x ≡ t →
      (has a rest ≡ true → get_or (placing (set places x (suc n)) (suc n) rest) a 0 ≡ suc (suc n + place_in a rest)) →
      not (has x rest) ≡ true → (t || has a rest) ≡ true →
      get_or (placing (set places x (suc n)) (suc n) rest) a 0 ≡ suc (n + pick t 0 (suc (place_in a rest)))
  placed_by places n x rest h true e more once here =
      let same : a ≡ x = eqb-true a x e in
      kept_at (set places x (suc n)) (suc n) rest (ap (λ (y : ℕ). has y rest) same ∙ not-true (has x rest) once)
      ∙ rw (← same) (get_or-set_same places a (suc n) 0 h) ∙ ap suc (sym (add-zero n))
  placed_by places n x rest h false e more once here = more here ∙ ap suc (suc-add n (place_in a rest) ∙ sym (add-suc n (place_in a rest)))

  placed_at : (places : List ℕ) (n : ℕ) (list : List ℕ) → a < length places → distinct_addresses list ≡ true → has a list ≡ true →
      get_or (placing places n list) a 0 ≡ suc (n + place_in a list)
  unfolding placing has distinct_addresses
  placed_at places n [] h d e = cc
  placed_at places n (x ∷ rest) h d e =
      let p = (and-eq-true_iff (is_address x && not (has x rest)) (distinct_addresses rest)).0 d in
      let q = (and-eq-true_iff (is_address x) (not (has x rest))).0 p.0 in
      placed_by places n x rest h (eqb a x) refl
      (placed_at (set places x (suc n)) (suc n) rest (omega (arith, length-set places x (suc n))) p.1) q.1 e

  -- in the table of all stations
  module _ (addresses : List ℕ) (few : length addresses ≤ max_stations) where
    pub place_of : a < bytes → distinct_addresses addresses ≡ true → has a addresses ≡ true → get_or (places_of addresses) a 0 ≡ suc (place_in a addresses)
    unfolding places_of
    place_of byte d e =
        rw (take_all max_stations addresses few) (placed_at (replicate bytes 0) 0 addresses (omega arith) d e ∙ ap suc (omega arith))

    pub no_place : has a addresses ≡ false → get_or (places_of addresses) a 0 ≡ 0
    unfolding places_of
    no_place e = rw (take_all max_stations addresses few) (kept_at (replicate bytes 0) 0 addresses e ∙ get_d_all bytes a 0)
