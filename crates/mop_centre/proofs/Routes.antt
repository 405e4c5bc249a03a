-- Routes: the tests in turn, the block that a route gives, and the places that it is told in.
-- Assumes nothing.
use mathlib.Core.Path.{◌≡◌, refl, sym, ◌∙◌, ap, subst}
use mathlib.Core.Bool.{true, false, ◌&&◌, and-false, and-eq-true_iff}
use mathlib.Core.List.{List, [], ◌∷◌, ◌++◌}
use Prim.Native.Nat.{ℕ, zero, suc, ◌+◌, ◌-◌, ◌≤◌, ◌<◌}
use native.Mathlib.Nat.{zero-add, suc-add}
use native.Mathlib.Numerals.{add-one}
use native.Mathlib.Omega.{arith}
use borrow.Author.Tests.{leb-true, le-leb, lt-leb}
use lib.Dec.{leb}
use lib.ListN.{length, get_or, take, drop, set, length-replicate}
use lib.Seq.{sets, length-sets, take_all, take-append-add}
use Rattle.base.specs.Places.{placed}
use Rattle.base.proofs.Places.{sets_placed}
use Rattle.mop_block.specs.Block.{distinct_addresses, stations}
use Rattle.mop_block.specs.Zipper.{zeros}
use Rattle.mop_block.proofs.Scan.{zero_next, station_next, stations_end}
use Rattle.mop_header.specs.Header.{head, entries, new_control}
use Rattle.mop_reader.specs.Reading.{max_entries}
use Rattle.mop_header.specs.declared.Function.TheVariants.{Request}
use Rattle.mop_header.specs.declared.Form.TheVariants.{Standard, Extended}
use Rattle.mop_header.proofs.Turns.{entries_take}
use Rattle.mop_centre.specs.Request.{max_route, good_route, request_head}
use Rattle.mop_centre.specs.Reply.{route_places}

-- what a route is
module _ (route : List ℕ) where
  pub no_station : length route < 1 → good_route route ≡ false
  unfolding good_route
  no_station h = rw (lt-leb 1 (length route) h)

  pub too_many : max_route < length route → good_route route ≡ false
  unfolding good_route
  too_many h = rw (lt-leb (length route) max_route h, and-false (leb 1 (length route)))

  pub by_addresses : 1 ≤ length route → length route ≤ max_route → good_route route ≡ distinct_addresses route
  unfolding good_route
  by_addresses some most = rw (le-leb 1 (length route) some, le-leb (length route) max_route most)

pub record Route (route : List ℕ) : Type 0 where
  pub some : 1 ≤ length route
  pub most : length route ≤ max_route
  pub distinct : distinct_addresses route ≡ true

pub route_parts : (route : List ℕ) → good_route route ≡ true → Route route
unfolding good_route
route_parts route g =
    let p = (and-eq-true_iff (leb 1 (length route) && leb (length route) max_route) (distinct_addresses route)).0 g in
    let q = (and-eq-true_iff (leb 1 (length route)) (leb (length route) max_route)).0 p.0 in
    record { some = leb-true 1 (length route) q.0; most = leb-true (length route) max_route q.1; distinct = p.1 }

-- the header of a route, by its form
module _ (route : List ℕ) where
  pub standard_head : length route ≤ 3 → request_head route ≡ head Request new_control Standard (route ++ zeros (4 - length route))
  unfolding request_head
  standard_head h = rw (le-leb (length route) 3 h)

  pub extended_head : 3 < length route → request_head route ≡ head Request new_control (Extended 0xEF) (route ++ (0 ∷ []))
  unfolding request_head
  extended_head h = rw (lt-leb (length route) 3 h)

-- 00s without some of them
drop_zeros : (k n : ℕ) → drop k (zeros (k + n)) ≡ zeros n
drop_zeros zero n = rw zero-add
drop_zeros (suc k) n = rw suc-add (drop_zeros k n)

take_zeros : (k n : ℕ) → take k (zeros (k + n)) ≡ zeros k
take_zeros zero n = refl
take_zeros (suc k) n = rw suc-add (ap (λ (l : List ℕ). 0 ∷ l) (take_zeros k n))

-- a route in the first places of a list of 00s: as many entries as are taken are the route, and 00s behind it
placed_zeros : (route : List ℕ) (k n : ℕ) → take (length route + k) (sets (zeros (length route + (k + n))) 0 route) ≡ route ++ zeros k
unfolding placed
placed_zeros route k n =
    let size = length route + (k + n) in
    rw (sets_placed route (zeros size) (omega (arith, length-replicate {A = ℕ} size 0)), drop_zeros (length route) (k + n), take-append-add)
    (ap (λ (l : List ℕ). route ++ l) (take_zeros k n))

pub filled_up : (route : List ℕ) (m size : ℕ) → length route ≤ m → m ≤ size → take m (sets (zeros size) 0 route) ≡ route ++ zeros (m - length route)
filled_up route m size h l =
    let k = m - length route in
    let first : length route + k ≡ m = omega arith in
    let all : length route + (k + (size - m)) ≡ size = omega arith in
    subst (λ (s : ℕ). take m (sets (zeros s) 0 route) ≡ route ++ zeros k) all
    (subst (λ (x : ℕ). take x (sets (zeros (length route + (k + (size - m)))) 0 route) ≡ route ++ zeros k) first (placed_zeros route k (size - m)))

-- so many entries of it are a header's block
pub block_filled : (route : List ℕ) (m : ℕ) → length route ≤ m → m ≤ max_entries → entries m (sets (zeros max_entries) 0 route) ≡ route ++ zeros (m - length route)
block_filled route m h l =
    entries_take m (sets (zeros max_entries) 0 route) (omega (arith, length-sets (zeros max_entries) 0 route, length-replicate {A = ℕ} max_entries 0))
    ∙ filled_up route m max_entries h l

-- the stations of a block, one after the other
module _ (b : List ℕ) (i : ℕ) (route : List ℕ) (place : ℕ) {whole : List ℕ} (k : sets route place (stations (drop i b)) ≡ whole) where
  module _ (h : i < length b) where
    pub passed_over : get_or b i 0 ≡ 0 → sets route place (stations (drop (i + 1) b)) ≡ whole
    passed_over e = rw (zero_next b i h e) at k

    pub station_told : (get_or b i 0 ≡ 0 → ⊥) → sets (set route place (get_or b i 0)) (place + 1) (stations (drop (i + 1) b)) ≡ whole
    station_told d = rw add-one (rw (station_next b i h d) at k)

  pub all_told : length b ≤ i → route ≡ whole
  all_told h = rw (stations_end b i h) at k

-- a station that is passed leaves one fewer
pub one_fewer : (b : List ℕ) (i : ℕ) → i < length b → (get_or b i 0 ≡ 0 → ⊥) → length (stations (drop i b)) ≡ suc (length (stations (drop (i + 1) b)))
one_fewer b i h d = ap length (station_next b i h d)

pub told_places : (route : List ℕ) → length route ≤ max_route → sets (zeros max_route) 0 route ≡ route_places route
unfolding route_places
told_places route h =
    sym (take_all max_route (sets (zeros max_route) 0 route) (omega (arith, length-sets (zeros max_route) 0 route, length-replicate {A = ℕ} max_route 0)))
    ∙ filled_up route max_route max_route h (omega arith)
