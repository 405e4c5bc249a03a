-- The view of a good block, both ways, and what the rolls do to it.
-- Assumes nothing.
use mathlib.Core.Path.{◌≡◌, refl, ◌∙◌, ap, subst}
use mathlib.Core.Bool.{true, false≢true, or-true}
use mathlib.Core.List.{List, [], ◌∷◌, ◌++◌, append_assoc, append-nil}
use Prim.Native.Nat.{ℕ, zero, suc, ◌≤◌}
use native.Mathlib.Omega.{arith}
use lib.Dec.{eqb, eqb-zero-suc, eqb-suc-zero}
use borrow.Author.Tests.{leb-true, le-leb}
use Rattle.mop_block.specs.Block.{is_address, has, zero_ends, around, first}
use Rattle.mop_block.specs.Zipper.{zeros, spread, returned, Full, nil, cons, one, count, Once, Zipper}
use Rattle.mop_block.specs.Zipper.{HasView, ViewIsGood, ReturnedIsGood, LeftMoves, RightMoves, RightReturns}
use Rattle.mop_block.proofs.Rolls.{left_cons, right_snoc}
use Rattle.mop_block.proofs.Counts.{good_parts, parts_good, count_append, count_zeros, good_once, once_distinct}
use Rattle.mop_block.proofs.Ends.{ends_single, ends_station, ends_full, ends_zeros, ends_run, ends_more}

-- the rolls
pub left_moves : LeftMoves
left_moves a ahead z passed = left_cons a (ahead ++ (0 ∷ (zeros z ++ passed))) ∙ simp append_assoc

pub right_moves : RightMoves
right_moves ahead z passed a =
    let e : spread ahead z (passed ++ (a ∷ [])) ≡ spread ahead z passed ++ (a ∷ []) = simp append_assoc in
    rw (e, right_snoc)

zeros_snoc : (n : ℕ) → zeros (suc n) ≡ zeros n ++ (0 ∷ [])
zeros_snoc zero = refl
zeros_snoc (suc n) = ap (λ (l : List ℕ). 0 ∷ l) (zeros_snoc n)

pub last_zero : (ahead : List ℕ) (z : ℕ) → spread ahead z [] ≡ (ahead ++ zeros z) ++ (0 ∷ [])
last_zero ahead z = rw (append-nil (zeros z), append_assoc) (ap (λ (l : List ℕ). ahead ++ l) (zeros_snoc z))

pub right_returns : RightReturns
right_returns ahead z = rw (last_zero ahead z, right_snoc)

-- the same stations in another order
module _ (ahead : List ℕ) (z : ℕ) (passed : List ℕ) where
  count_spread : (a : ℕ) → count (suc a) (spread ahead z passed) ≡ count (suc a) (passed ++ ahead)
  count_spread a = simp (count_append, eqb-suc-zero, count_zeros) (omega arith)

  pub once_spread : Once (passed ++ ahead) → Once (spread ahead z passed)
  once_spread o a = rw (count_spread a) (o a)

  pub once_parts : {b : List ℕ} → b ≡ spread ahead z passed → Once b → Once (passed ++ ahead)
  once_parts e o a = subst (λ (n : ℕ). n ≤ one (is_address (suc a))) (ap (count (suc a)) e ∙ count_spread a) (o a)

count_returned : (a : ℕ) (ahead : List ℕ) (z : ℕ) → count (suc a) (returned ahead z) ≡ count (suc a) ahead
count_returned a ahead z = simp (count_append, eqb-suc-zero, count_zeros) (omega arith)

-- a block of such parts is good
has_behind : (xs ys : List ℕ) → has 0 (xs ++ (0 ∷ ys)) ≡ true
unfolding has
has_behind [] ys = refl
has_behind (x ∷ xs) ys = rw (has_behind xs ys) (or-true (eqb 0 x))

-- around the ring, the first entry comes behind the passed stations
around_parts : (ahead : List ℕ) (z : ℕ) (passed : List ℕ) →
    around (spread ahead z passed) ≡ ahead ++ (0 ∷ (zeros z ++ (passed ++ (first (spread ahead z passed) ∷ []))))
unfolding around first
around_parts [] z passed = simp append_assoc
around_parts (x ∷ xs) z passed = simp append_assoc

-- 00s, then stations, then what has no end
one_end : {xs : List ℕ} → Full xs → (z : ℕ) (ys : List ℕ) → zero_ends ys ≡ 0 → zero_ends (0 ∷ (zeros z ++ (xs ++ ys))) ≤ 1
one_end {xs} f z ys e = omega (arith, ends_zeros z (xs ++ ys), ends_more (xs ++ ys), ends_full f ys)

around_spread : (ahead : List ℕ) (z : ℕ) (passed : List ℕ) → Full ahead → Full passed → zero_ends (around (spread ahead z passed)) ≤ 1
around_spread ahead z passed f g =
    let x = first (spread ahead z passed) in
    rw (around_parts ahead z passed, ends_full f (0 ∷ (zeros z ++ (passed ++ (x ∷ [])))))
    (one_end g z (x ∷ []) (ends_single x))

pub view_is_good : ViewIsGood
view_is_good ahead z passed f g o =
    parts_good
    (record {
      zero_in = has_behind ahead (zeros z ++ passed);
      one_end = le-leb _ _ (around_spread ahead z passed f g);
      distinct = once_distinct (spread ahead z passed) (once_spread ahead z passed o);
    })

around_returned : (ahead : List ℕ) (z : ℕ) → Full ahead → zero_ends (around (returned ahead z)) ≤ 1
unfolding around
around_returned ahead z f =
    let e : returned ahead z ++ (0 ∷ []) ≡ 0 ∷ (ahead ++ (zeros (suc z))) = rw (zeros_snoc z) (simp append_assoc) in
    rw e (one_end f 0 (zeros (suc z)) (ends_run z))

pub returned_is_good : ReturnedIsGood
returned_is_good ahead z f o =
    parts_good
    (record {
      zero_in = has_behind [] (ahead ++ zeros z);
      one_end = le-leb _ _ (around_returned ahead z f);
      distinct = once_distinct (returned ahead z) (λ a. rw (count_returned a ahead z) (o a));
    })

-- what is behind the first 00: more of them, then stations
record Gap (ys : List ℕ) : Type 0 where
  gap : ℕ
  passed : List ℕ
  is : ys ≡ zeros gap ++ passed
  full_passed : Full passed

-- and the stations before it
record Parts (xs : List ℕ) : Type 0 where
  ahead : List ℕ
  gap : ℕ
  passed : List ℕ
  is : xs ≡ spread ahead gap passed
  full_ahead : Full ahead
  full_passed : Full passed

zero_first : {ys : List ℕ} → Gap ys → Gap (0 ∷ ys)
zero_first g = record {
  gap = suc g.gap;
  passed = g.passed;
  is = ap (λ (l : List ℕ). 0 ∷ l) g.is;
  full_passed = g.full_passed;
}

gap_first : {ys : List ℕ} → Gap ys → Parts (0 ∷ ys)
gap_first g = record {
  ahead = [];
  gap = g.gap;
  passed = g.passed;
  is = ap (λ (l : List ℕ). 0 ∷ l) g.is;
  full_ahead = nil;
  full_passed = g.full_passed;
}

station_first : (x : ℕ) {ys : List ℕ} → Parts ys → Parts (suc x ∷ ys)
station_first x p = record {
  ahead = suc x ∷ p.ahead;
  gap = p.gap;
  passed = p.passed;
  is = ap (λ (l : List ℕ). suc x ∷ l) p.is;
  full_ahead = cons p.full_ahead;
  full_passed = p.full_passed;
}

-- what comes before the station a, which closes the ring
module _ (a : ℕ) where
  some_end : (ys : List ℕ) → 1 ≤ zero_ends (0 ∷ (ys ++ (suc a ∷ [])))
  unfolding zero_ends
  some_end [] = omega arith
  some_end (zero ∷ ys) = some_end ys
  some_end (suc x ∷ ys) = omega arith

  no_end : (ys : List ℕ) → zero_ends (ys ++ (suc a ∷ [])) ≤ 0 → Full ys
  no_end [] e = nil
  no_end (zero ∷ ys) e = absurd (omega (arith, some_end ys))
  no_end (suc x ∷ ys) e = cons (no_end ys (omega (arith, ends_station x (ys ++ (suc a ∷ [])))))

  behind : (ys : List ℕ) → zero_ends (0 ∷ (ys ++ (suc a ∷ []))) ≤ 1 → Gap ys
  unfolding zero_ends
  behind [] e = record { gap = 0; passed = []; is = refl; full_passed = nil }
  behind (zero ∷ ys) e = zero_first (behind ys e)
  behind (suc x ∷ ys) e = record { gap = 0; passed = suc x ∷ ys; is = refl; full_passed = no_end (suc x ∷ ys) (omega arith) }

  parted : (xs : List ℕ) → has 0 xs ≡ true → zero_ends (xs ++ (suc a ∷ [])) ≤ 1 → Parts xs
  unfolding has
  parted [] h e = absurd (false≢true h)
  parted (zero ∷ ys) h e = gap_first (behind ys e)
  parted (suc x ∷ ys) h e =
      station_first x (parted ys (rw (eqb-zero-suc x) at h) (omega (arith, ends_station x (ys ++ (suc a ∷ [])))))

viewed : (a : ℕ) (xs : List ℕ) → Once (suc a ∷ xs) → Parts xs → Zipper (suc a ∷ xs)
viewed a xs o p =
    let e : suc a ∷ xs ≡ spread (suc a ∷ p.ahead) p.gap p.passed = ap (λ (l : List ℕ). suc a ∷ l) p.is in
    record {
      here = a;
      ahead = p.ahead;
      gap = p.gap;
      passed = p.passed;
      is = e;
      full_ahead = p.full_ahead;
      full_passed = p.full_passed;
      once = once_parts (suc a ∷ p.ahead) p.gap p.passed e o;
    }

pub has_view : HasView
unfolding first around has
has_view [] g d = absurd (d refl)
has_view (zero ∷ xs) g d = absurd (d refl)
has_view (suc a ∷ xs) g d =
    let p = good_parts (suc a ∷ xs) g in
    let m = leb-true (zero_ends (around (suc a ∷ xs))) 1 p.one_end in
    let n : zero_ends (xs ++ (suc a ∷ [])) ≤ 1 = omega (arith, m, ends_station a (xs ++ (suc a ∷ []))) in
    viewed a xs (good_once (suc a ∷ xs) g) (parted a xs (rw (eqb-zero-suc a) at p.zero_in) n)
