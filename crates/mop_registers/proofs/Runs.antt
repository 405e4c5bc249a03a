-- Runs of registers and their places, and what reading and writing one gives.
-- Assumes nothing.
use mathlib.Core.Path.{◌≡◌, refl, sym, ◌∙◌, ap, subst}
use mathlib.Core.Bool.{Bool, true, false, ◌&&◌, true≢false}
use mathlib.Core.List.{List, [], ◌∷◌}
use mathlib.Core.Logic.{◌⊎◌, inl, inr}
use Prim.Native.Nat.{ℕ, zero, suc, ◌+◌, ◌-◌, ◌≤◌, ◌<◌}
use native.Mathlib.Nat.{add-zero, add-suc, suc-add}
use native.Mathlib.Numerals.{add-one}
use native.Mathlib.Omega.{arith}
use borrow.Author.Tests.{leb-true, leb-false, eqb-true, eqb-false}
use lib.Dec.{eqb, leb}
use lib.ListN.{length, get_or, take, drop, set, length-set}
use lib.Seq.{sets, drop-cons, get_or-set_same, get_or-set_other}
use Rattle.mop_registers.specs.Rows.{from_to, table_length, place_of, exists, may_write, takes}
use Rattle.mop_registers.specs.Runs.{run_exists, LongestRun, run_may_write, run_takes, writes, reads, KeptOrInRange, WritesInRange}
use Rattle.mop_registers.proofs.Tests.{both_true}
use Rattle.mop_registers.proofs.Places.{place_most, place_bound, place_apart, place_next, number_bound, taken_exists, no_nine}

-- a test of a run that is a test of each register
pub record Stepwise (test : ℕ → Bool) (run : ℕ → ℕ → Bool) : Type 0 where
  pub none : (s : ℕ) → run s zero ≡ true
  pub step : (s c : ℕ) → run s (suc c) ≡ (test s && run (suc s) c)

pub exists_steps : Stepwise exists run_exists
unfolding run_exists
exists_steps = record { none = λ s. refl; step = λ s c. refl }

pub write_steps : Stepwise may_write run_may_write
unfolding run_may_write
write_steps = record { none = λ s. refl; step = λ s c. refl }

-- a run from s up to an end: one register of it, and none
module _ {test : ℕ → Bool} {run : ℕ → ℕ → Bool} (w : Stepwise test run) (s end : ℕ) where
  pub run_on : s < end → test s ≡ true → run (s + 1) (end - (s + 1)) ≡ run s (end - s)
  run_on h t =
      let more : end - s ≡ suc (end - (s + 1)) = omega arith in
      rw (more, w.step s (end - (s + 1)), t, add-one s)

  pub run_off : s < end → test s ≡ false → run s (end - s) ≡ false
  run_off h t =
      let more : end - s ≡ suc (end - (s + 1)) = omega arith in
      rw (more, w.step s (end - (s + 1)), t)

  pub run_over : end ≤ s → run s (end - s) ≡ true
  run_over h =
      let none : end - s ≡ zero = omega arith in
      rw (none, w.none s)

pub run_empty : (s : ℕ) → run_exists s 0 ≡ true
run_empty s = exists_steps.none s

-- the first register of a run, and the run behind it
run_first : (s c : ℕ) → run_exists s (suc c) ≡ true → (exists s ≡ true) × (run_exists (suc s) c ≡ true)
unfolding run_exists
run_first s c r = both_true (exists s) (run_exists (suc s) c) r

later : (s i : ℕ) → suc s + i ≡ s + suc i
later s i = omega arith

pub run_at : (s c i : ℕ) → run_exists s c ≡ true → i < c → exists (s + i) ≡ true
run_at s zero i r h = absurd (omega arith)
run_at s (suc c) zero r h = rw (add-zero s) (run_first s c r).0
run_at s (suc c) (suc i) r h = rw (← later s i) (run_at (suc s) c i (run_first s c r).1 (omega arith))

pub run_places : (s c i : ℕ) → run_exists s c ≡ true → i < c → place_of (s + i) ≡ place_of s + i
run_places s c zero r h = rw (add-zero s, add-zero (place_of s))
run_places s c (suc i) r h =
    let before : i < c = omega arith in
    let next : exists (suc (s + i)) ≡ true = rw (← add-suc s i) (run_at s c (suc i) r h) in
    rw (add-suc s i, add-suc (place_of s) i) (place_next (s + i) (run_at s c i r before) next ∙ ap suc (run_places s c i r before))

-- a number from a first to a last one
module _ (first last n : ℕ) (within : from_to first last n ≡ true) where
  pub from_first : first ≤ n
  from_first = leb-true first n (both_true (leb first n) (leb n last) within).0

  pub to_last : n ≤ last
  to_last = leb-true n last (both_true (leb first n) (leb n last) within).1

  -- if all of these are registers, it is as far behind the first place as behind the first number
  pub place_within : run_exists first (suc last - first) ≡ true → place_of first + (n - first) ≡ place_of n
  place_within r =
      let at : first + (n - first) ≡ n = omega (arith, from_first) in
      sym (run_places first (suc last - first) (n - first) r (omega (arith, from_first, to_last))) ∙ ap place_of at

pub run_room : (s c : ℕ) → run_exists s c ≡ true → place_of s + c ≤ table_length
run_room s zero r = rw (add-zero (place_of s)) (place_most s)
run_room s (suc c) r =
    let last : c < suc c = omega arith in
    omega (arith, place_bound (s + c) (run_at s (suc c) c r last), run_places s (suc c) c r last)

run_less : (s c d : ℕ) → run_exists s (c + d) ≡ true → run_exists s c ≡ true
unfolding run_exists
run_less s zero d r = refl
run_less s (suc c) d r =
    let both = run_first s (c + d) (rw (suc-add c d) at r) in
    rw both.0 (run_less (suc s) c d both.1)

pub run_bound : (s c : ℕ) → run_exists s c ≡ true → c ≤ 8
run_bound s c r = go (leb c 8) refl
  where
    go : (b : Bool) → leb c 8 ≡ b → c ≤ 8
    go true e = leb-true c 8 e
    go false e =
        let long : 8 < c = leb-false c 8 e in
        let more : c ≡ 9 + (c - 9) = omega arith in
        let nine : run_exists s 9 ≡ true = run_less s 9 (c - 9) (subst (λ (n : ℕ). run_exists s n ≡ true) more r) in
        absurd (true≢false (sym nine ∙ no_nine s (run_first s 8 nine).0))

pub longest_run : LongestRun
unfolding run_exists exists place_of table_length
longest_run = (refl, run_bound)

pub run_past : (s c i : ℕ) → i < c → 65535 < s + i → run_exists s c ≡ false
run_past s c i h past = go (run_exists s c) refl
  where
    go : (b : Bool) → run_exists s c ≡ b → run_exists s c ≡ false
    go true r = absurd (omega (arith, number_bound (s + i) (run_at s c i r h)))
    go false r = r

pub length_reads : (t : List ℕ) (s c : ℕ) → length (reads t s c) ≡ c
unfolding reads
length_reads t s zero = refl
length_reads t s (suc c) = ap suc (length_reads t (suc s) c)

pub reads_at : (t : List ℕ) (s c i : ℕ) → i < c → get_or (reads t s c) i 0 ≡ get_or t (place_of (s + i)) 0
unfolding reads
reads_at t s zero i h = absurd (omega arith)
reads_at t s (suc c) zero h = rw (add-zero s)
reads_at t s (suc c) (suc i) h = rw (← later s i) (reads_at t (suc s) c i (omega arith))

-- in a table of the right length the values of a run stand next to each other
pub reads_run : (t : List ℕ) (s c : ℕ) → run_exists s c ≡ true → length t ≡ table_length → reads t s c ≡ take c (drop (place_of s) t)
unfolding reads
reads_run t s zero r long = refl
reads_run t s (suc zero) r long = rw (drop-cons t (place_of s) 0 (omega (arith, place_bound s (run_first s 0 r).0)))
reads_run t s (suc (suc c)) r long =
    let one = run_first s (suc c) r in
    let two = run_first (suc s) c one.1 in
    rw (reads_run t (suc s) (suc c) one.1 long, place_next s one.0 two.0, drop-cons t (place_of s) 0 (omega (arith, place_bound s one.0)))

pub length_writes : (t : List ℕ) (s : ℕ) (vs : List ℕ) → length (writes t s vs) ≡ length t
unfolding writes
length_writes t s [] = refl
length_writes t s (v ∷ vs) = length_writes (set t (place_of s) v) (suc s) vs ∙ length-set t (place_of s) v

pub writes_run : (t : List ℕ) (s : ℕ) (vs : List ℕ) → run_exists s (length vs) ≡ true → writes t s vs ≡ sets t (place_of s) vs
unfolding writes
writes_run t s [] r = refl
writes_run t s (v ∷ []) r = refl
writes_run t s (v ∷ w ∷ vs) r =
    let one = run_first s (suc (length vs)) r in
    let two = run_first (suc s) (length vs) one.1 in
    writes_run (set t (place_of s) v) (suc s) (w ∷ vs) one.1
    ∙ ap (λ (p : ℕ). sets (set t (place_of s) v) p (w ∷ vs)) (place_next s one.0 two.0)

pub writes_keeps : (t : List ℕ) (s : ℕ) (vs : List ℕ) (j : ℕ) → ((i : ℕ) → i < length vs → j ≡ place_of (s + i) → ⊥) →
    get_or (writes t s vs) j 0 ≡ get_or t j 0
unfolding writes
writes_keeps t s [] j other = refl
writes_keeps t s (v ∷ vs) j other =
    writes_keeps (set t (place_of s) v) (suc s) vs j (λ i h e. other (suc i) (omega arith) (e ∙ ap place_of (later s i)))
    ∙ get_or-set_other t (place_of s) j v 0 (λ e. other 0 (omega arith) (e ∙ ap place_of (sym (add-zero s))))

pub writes_holds : (t : List ℕ) (s : ℕ) (vs : List ℕ) (i : ℕ) → run_exists s (length vs) ≡ true → length t ≡ table_length → i < length vs →
    get_or (writes t s vs) (place_of (s + i)) 0 ≡ get_or vs i 0
unfolding writes
writes_holds t s [] i r long h = absurd (omega arith)
writes_holds t s (v ∷ vs) zero r long h =
    let one = run_first s (length vs) r in
    rw (add-zero s)
    (writes_keeps (set t (place_of s) v) (suc s) vs (place_of s)
    (λ i k e. apart s i (place_apart s (suc s + i) one.0 (run_at (suc s) (length vs) i one.1 k) e))
    ∙ get_or-set_same t (place_of s) v 0 (omega (arith, place_bound s one.0)))
  where
    apart : (s i : ℕ) → s ≡ suc s + i → ⊥
    apart s i e = omega arith
writes_holds t s (v ∷ vs) (suc i) r long h =
    rw (← later s i)
    (writes_holds (set t (place_of s) v) (suc s) vs i (run_first s (length vs) r).1 (length-set t (place_of s) v ∙ long) (omega arith))

pub kept_in_range : (t u w : List ℕ) → KeptOrInRange t u → KeptOrInRange u w → KeptOrInRange t w
kept_in_range t u w first second n there = go (first n there) (second n there)
  where
    go : {x y z : ℕ} → (y ≡ x) ⊎ (takes n y ≡ true) → (z ≡ y) ⊎ (takes n z ≡ true) → (z ≡ x) ⊎ (takes n z ≡ true)
    go a (inr good) = inr good
    go (inl e) (inl f) = inl (f ∙ e)
    go (inr good) (inl f) = inr (rw f good)

set_or_kept : (t : List ℕ) (p v : ℕ) → (get_or (set t p v) p 0 ≡ get_or t p 0) ⊎ (get_or (set t p v) p 0 ≡ v)
set_or_kept [] p v = inl refl
set_or_kept (x ∷ t) zero v = inr refl
set_or_kept (x ∷ t) (suc p) v = set_or_kept t p v

-- one value in the range of its register
set_in_range : (t : List ℕ) (s v : ℕ) → takes s v ≡ true → KeptOrInRange t (set t (place_of s) v)
set_in_range t s v good n there = go (eqb n s) refl
  where
    same : {x y : ℕ} → (x ≡ y) ⊎ (x ≡ v) → (x ≡ y) ⊎ (takes s x ≡ true)
    same (inl e) = inl e
    same (inr e) = inr (rw e good)

    go : (b : Bool) → eqb n s ≡ b →
        (get_or (set t (place_of s) v) (place_of n) 0 ≡ get_or t (place_of n) 0) ⊎ (takes n (get_or (set t (place_of s) v) (place_of n) 0) ≡ true)
    go true e = rw (eqb-true n s e) (same (set_or_kept t (place_of s) v))
    go false e =
        inl (get_or-set_other t (place_of s) (place_of n) v 0 (λ k. eqb-false n s e (place_apart n s there (taken_exists s v good) k)))

pub writes_in_range : WritesInRange
unfolding writes run_takes
writes_in_range t s [] good = λ n there. inl refl
writes_in_range t s (v ∷ vs) good =
    let both = both_true (takes s v) (run_takes (suc s) vs) good in
    let one = set t (place_of s) v in
    kept_in_range t one (writes one (suc s) vs) (set_in_range t s v both.0) (writes_in_range one (suc s) vs both.1)
