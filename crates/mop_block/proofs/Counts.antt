-- How often a station stands in a block: in a good one once at most.
-- Assumes nothing.
use mathlib.Core.Path.{◌≡◌, refl, sym, ◌∙◌}
use mathlib.Core.Bool.{Bool, true, false, not, ◌&&◌, ◌||◌, and-eq-true_iff}
use mathlib.Core.List.{List, [], ◌∷◌, ◌++◌}
use Prim.Native.Nat.{ℕ, zero, suc, ◌+◌, ◌≤◌}
use native.Mathlib.Omega.{arith}
use native.Mathlib.Nat.{zero-add}
use lib.Dec.{eqb, ltb, leb, eqb-suc-zero}
use borrow.Author.Tests.{eqb-true, eq-eqb, not-true, lt-ltb, ltb-false, le-ltb}
use Rattle.mop_block.specs.Block.{is_address, has, distinct_addresses, stations, zero_ends, around, good_block}
use Rattle.mop_block.specs.Zipper.{zeros, one, count, Once}

-- the three parts of the block rule
pub record Good (b : List ℕ) : Type 0 where
  pub zero_in : has 0 b ≡ true
  pub one_end : leb (zero_ends (around b)) 1 ≡ true
  pub distinct : distinct_addresses (stations b) ≡ true

pub good_parts : (b : List ℕ) → good_block b ≡ true → Good b
unfolding good_block
good_parts b g =
    let p = (and-eq-true_iff (has 0 b && leb (zero_ends (around b)) 1) (distinct_addresses (stations b))).0 g in
    let q = (and-eq-true_iff (has 0 b) (leb (zero_ends (around b)) 1)).0 p.0 in
    record { zero_in = q.0; one_end = q.1; distinct = p.1 }

pub parts_good : {b : List ℕ} → Good b → good_block b ≡ true
unfolding good_block
parts_good p = rw (p.zero_in, p.one_end, p.distinct)

pub count_append : (a : ℕ) (xs ys : List ℕ) → count a (xs ++ ys) ≡ count a xs + count a ys
count_append a [] ys = omega arith
count_append a (x ∷ xs) ys = rw (count_append a xs ys) (omega arith)

pub count_zeros : (a n : ℕ) → count (suc a) (zeros n) ≡ 0
count_zeros a zero = refl
count_zeros a (suc n) = rw (eqb-suc-zero a, count_zeros a n)

-- a list has what it counts at least once
has_first : (a : ℕ) (xs : List ℕ) (t : Bool) → has a xs ≡ ltb 0 (count a xs) → t || has a xs ≡ ltb 0 (one t + count a xs)
has_first a xs true e = sym (lt-ltb 0 (1 + count a xs) (omega arith))
has_first a xs false e = rw zero-add e

has_count : (a : ℕ) (xs : List ℕ) → has a xs ≡ ltb 0 (count a xs)
unfolding has
has_count a [] = refl
has_count a (x ∷ xs) = has_first a xs (eqb a x) (has_count a xs)

-- the 00s are no stations
has_stations : (a : ℕ) (xs : List ℕ) → has (suc a) (stations xs) ≡ has (suc a) xs
unfolding has stations
has_stations a [] = refl
has_stations a (zero ∷ xs) = rw (eqb-suc-zero a) (has_stations a xs)
has_stations a (suc x ∷ xs) = rw (has_stations a xs)

absent : (a : ℕ) (xs : List ℕ) → not (has (suc a) (stations xs)) ≡ true → count (suc a) xs ≡ 0
absent a xs e =
    let f : has (suc a) xs ≡ false = sym (has_stations a xs) ∙ not-true (has (suc a) (stations xs)) e in
    let z : count (suc a) xs ≤ 0 = ltb-false 0 (count (suc a) xs) (sym (has_count (suc a) xs) ∙ f) in
    omega arith

to_absent : (a : ℕ) (xs : List ℕ) → count (suc a) xs ≡ 0 → has (suc a) (stations xs) ≡ false
to_absent a xs e = has_stations a xs ∙ has_count (suc a) xs ∙ le-ltb 0 (count (suc a) xs) (omega arith)

-- distinct addresses are those that stand there once
once_first : (a x : ℕ) (xs : List ℕ) (t : Bool) → eqb (suc a) (suc x) ≡ t → is_address (suc x) ≡ true → count (suc x) xs ≡ 0 →
    count (suc a) xs ≤ one (is_address (suc a)) → one t + count (suc a) xs ≤ one (is_address (suc a))
once_first a x xs true e h z o =
    let k : a ≡ x = omega (arith, eqb-true (suc a) (suc x) e) in
    rw (k, z, h) (omega arith)
once_first a x xs false e h z o = omega arith

pub distinct_once : (b : List ℕ) → distinct_addresses (stations b) ≡ true → Once b
unfolding stations distinct_addresses
distinct_once [] h a = omega arith
distinct_once (zero ∷ xs) h a = rw (eqb-suc-zero a) (omega (arith, distinct_once xs h a))
distinct_once (suc x ∷ xs) h a =
    let p = (and-eq-true_iff (is_address (suc x) && not (has (suc x) (stations xs))) (distinct_addresses (stations xs))).0 h in
    let q = (and-eq-true_iff (is_address (suc x)) (not (has (suc x) (stations xs)))).0 p.0 in
    once_first a x xs (eqb (suc a) (suc x)) refl q.0 (absent x xs q.1) (distinct_once xs p.1 a)

distinct_first : (x : ℕ) (xs : List ℕ) (t : Bool) → is_address (suc x) ≡ t → 1 + count (suc x) xs ≤ one t → distinct_addresses (stations xs) ≡ true →
    is_address (suc x) && not (has (suc x) (stations xs)) && distinct_addresses (stations xs) ≡ true
distinct_first x xs true e o h = rw (e, to_absent x xs (omega arith), h)
distinct_first x xs false e o h = absurd (omega arith)

pub once_distinct : (b : List ℕ) → Once b → distinct_addresses (stations b) ≡ true
unfolding stations distinct_addresses
once_distinct [] o = refl
once_distinct (zero ∷ xs) o = once_distinct xs (λ a. omega (arith, o a))
once_distinct (suc x ∷ xs) o =
    distinct_first x xs (is_address (suc x)) refl (rw (eq-eqb (suc x) (suc x) refl) at (o x))
    (once_distinct xs (λ a. omega (arith, o a)))

pub good_once : (b : List ℕ) → good_block b ≡ true → Once b
good_once b g = distinct_once b (good_parts b g).distinct

one_bound : (t : Bool) → one t ≤ 1
one_bound true = omega arith
one_bound false = omega arith

pub at_most_once : (b : List ℕ) → good_block b ≡ true → (a : ℕ) → count (suc a) b ≤ 1
at_most_once b g a = omega (arith, good_once b g a, one_bound (is_address (suc a)))

-- in a good block of four the last two are no station twice
pub not_twice : (w x y z a : ℕ) → good_block (w ∷ x ∷ y ∷ z ∷ []) ≡ true → y ≡ suc a → z ≡ suc a → ⊥
not_twice w x y z a g e f =
    let n = at_most_once (w ∷ x ∷ y ∷ z ∷ []) g a in
    omega (arith, rw (e, f, eq-eqb (suc a) (suc a) refl) at n)
