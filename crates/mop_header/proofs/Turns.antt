-- The entries of a slice, turned: what is first, what stands where, and what a roll makes of it.
-- Assumes nothing.
use mathlib.Core.Path.{◌≡◌, refl, sym, ◌∙◌, ap}
use mathlib.Core.Bool.{Bool, true, false}
use mathlib.Core.List.{List, [], ◌∷◌, ◌++◌, append_assoc, append-nil}
use Prim.Native.Nat.{ℕ, zero, suc, ◌+◌, ◌-◌, ◌≤◌, ◌<◌}
use native.Mathlib.Numerals.{add-one}
use native.Mathlib.Omega.{arith}
use borrow.Author.Tests.{ltb-true, ltb-false}
use lib.Dec.{ltb}
use lib.ListN.{length, get_or, set, take, drop, drop_of_length-le, length-drop, get_or-append, get_or-eq_default}
use lib.Seq.{sets, drop-cons, take-suc, take_all, get_or-append-add, get_or-drop, get_or-take}
use Rattle.base.specs.Choice.{pick}
use Rattle.base.proofs.Places.{sets_append}
use Rattle.mop_block.specs.Block.{rolled, roll_left, roll_right}
use Rattle.mop_block.proofs.Rolls.{length_rolled, left_cons, right_left}
use Rattle.mop_header.specs.Header.{Head, entries}
use Rattle.mop_header.specs.Private.Places.{first_place}

pub for_each : {f g : List ℕ → Head} → ((slice : List ℕ) → f slice ≡ g slice) → f ≡ g
for_each p = λ i slice. p slice i

pub at_slice : {f g : List ℕ → Head} → f ≡ g → (slice : List ℕ) → f slice ≡ g slice
at_slice e slice = ap (λ (h : List ℕ → Head). h slice) e

pub length_entries : (n : ℕ) (l : List ℕ) → length (entries n l) ≡ n
unfolding entries
length_entries zero l = refl
length_entries (suc n) l = ap suc (length_entries n (drop 1 l))

pub entries_take : (n : ℕ) (l : List ℕ) → n ≤ length l → entries n l ≡ take n l
unfolding entries
entries_take zero l h = refl
entries_take (suc n) [] h = absurd (omega arith)
entries_take (suc n) (x ∷ l) h = ap (λ (m : List ℕ). x ∷ m) (entries_take n l (omega arith))

-- a list, whatever stands behind it
pub own_entries : (b rest : List ℕ) → entries (length b) (b ++ rest) ≡ b
unfolding entries
own_entries [] rest = refl
own_entries (x ∷ b) rest = ap (λ (l : List ℕ). x ∷ l) (own_entries b rest)

get_d_tail : (l : List ℕ) (i : ℕ) → get_or (drop 1 l) i 0 ≡ get_or l (suc i) 0
get_d_tail [] i = refl
get_d_tail (x ∷ l) i = refl

pub all_entries : (b : List ℕ) → entries (length b) b ≡ b
all_entries b = ap (entries (length b)) (sym (append-nil b)) ∙ own_entries b []

pub entry_of : (n : ℕ) (l : List ℕ) (i : ℕ) → i < n → get_or (entries n l) i 0 ≡ get_or l i 0
unfolding entries
entry_of zero l i h = absurd (omega arith)
entry_of (suc n) l zero h = refl
entry_of (suc n) l (suc i) h = entry_of n (drop 1 l) i (omega arith) ∙ get_d_tail l i

pub rolled_zero : (b : List ℕ) → rolled 0 b ≡ b
unfolding rolled
rolled_zero b = append-nil b

pub rolled_beyond : (k : ℕ) (b : List ℕ) → length b ≤ k → rolled k b ≡ b
unfolding rolled
rolled_beyond k b h = rw (drop_of_length-le b {i = k} h, take_all k b h)

module _ (b : List ℕ) (p : ℕ) (within : p < length b) where
  rolled_at : rolled p b ≡ get_or b p 0 ∷ (drop (p + 1) b ++ take p b)
  unfolding rolled
  rolled_at = rw (add-one p, drop-cons b p 0 within)

  pub left_at : roll_left (rolled p b) ≡ rolled (p + 1) b
  unfolding rolled
  left_at =
      ap roll_left rolled_at ∙ left_cons (get_or b p 0) (drop (p + 1) b ++ take p b)
      ∙ append_assoc (drop (p + 1) b) (take p b) (get_or b p 0 ∷ [])
      ∙ rw (add-one p) (ap (λ (l : List ℕ). drop (suc p) b ++ l) (sym (take-suc b p 0 within)))

  pub right_at : roll_right (rolled (p + 1) b) ≡ rolled p b
  right_at = ap roll_right (sym left_at) ∙ right_left (rolled p b) (omega (arith, length_rolled p b))

  -- an entry, before the end of the list and behind it
  pub entry_before : (i : ℕ) → p + i < length b → get_or (rolled p b) i 0 ≡ get_or b (p + i) 0
  unfolding rolled
  entry_before i h = get_or-append (drop p b) (take p b) 0 i (rw length-drop (omega arith)) ∙ get_or-drop p b i 0

  pub entry_around : (i : ℕ) → i < p → get_or (rolled p b) ((length b - p) + i) 0 ≡ get_or b i 0
  unfolding rolled
  entry_around i h = rw (← length-drop p b) (get_or-append-add (drop p b) (take p b) i 0 ∙ get_or-take p b i 0 h)

-- the place of the first entry
place_by : (n t : ℕ) (b : List ℕ) → length b ≡ n → (x : Bool) → ltb t n ≡ x → rolled (pick x t 0) b ≡ rolled t b
place_by n t b e true x = refl
place_by n t b e false x = rolled_zero b ∙ sym (rolled_beyond t b (omega (arith, ltb-false t n x)))

pub place_rolls : (n t : ℕ) (l : List ℕ) → rolled (first_place n t) (entries n l) ≡ rolled t (entries n l)
unfolding first_place
place_rolls n t l = place_by n t (entries n l) (length_entries n l) (ltb t n) refl

within_by : (n t : ℕ) (x : Bool) → ltb t n ≡ x → 0 < n → pick x t 0 < n
within_by n t true x h = ltb-true t n x
within_by n t false x h = h

pub place_within : (n t : ℕ) → 0 < n → first_place n t < n
unfolding first_place
place_within n t h = within_by n t (ltb t n) refl h

most_by : (n t : ℕ) (x : Bool) → ltb t n ≡ x → pick x t 0 ≤ n
most_by n t true x = omega (arith, ltb-true t n x)
most_by n t false x = omega arith

pub place_most : (n t : ℕ) → first_place n t ≤ n
unfolding first_place
place_most n t = most_by n t (ltb t n) refl

none_left : (b : List ℕ) (t : ℕ) → length b ≡ 0 → rolled 0 b ≡ roll_left (rolled t b)
unfolding roll_left
none_left b t e = rolled_zero b ∙ sym (ap (rolled 1) (rolled_beyond t b (omega arith)) ∙ rolled_beyond 1 b (omega arith))

-- a block without entries rolls to itself
pub none_right : (n t : ℕ) (l : List ℕ) → n ≡ 0 → rolled t (entries n l) ≡ roll_right (rolled t (entries n l))
unfolding roll_right
none_right n t l e =
    let size : length (rolled t (entries n l)) ≡ 0 = length_rolled t (entries n l) ∙ length_entries n l ∙ e in
    sym (rolled_beyond _ (rolled t (entries n l)) (omega arith))

module _ (n t : ℕ) (l : List ℕ) where
  module _ {at : ℕ} (e : at ≡ first_place n t) where
    pub at_place : rolled at (entries n l) ≡ rolled t (entries n l)
    at_place = rw e (place_rolls n t l)

    at_within : 0 < n → at < length (entries n l)
    at_within h = rw (length_entries n l, e) (place_within n t h)

    -- to the left: the entry at the next place; behind the last one, the first
    pub left_more : 1 < n - at → rolled (at + 1) (entries n l) ≡ roll_left (rolled t (entries n l))
    left_more h = sym (left_at (entries n l) at (at_within (omega arith))) ∙ ap roll_left at_place

    left_by : (k : ℕ) → k ≡ n → n - at ≤ 1 → rolled 0 (entries n l) ≡ roll_left (rolled t (entries n l))
    left_by zero z h = none_left (entries n l) t (length_entries n l ∙ sym z)
    left_by (suc k) z h =
        let some : at < length (entries n l) = at_within (omega arith) in
        rolled_zero (entries n l) ∙ sym (rolled_beyond (at + 1) (entries n l) (omega (arith, length_entries n l)))
        ∙ sym (left_at (entries n l) at some) ∙ ap roll_left at_place

    pub left_last : n - at ≤ 1 → rolled 0 (entries n l) ≡ roll_left (rolled t (entries n l))
    left_last h = left_by n refl h

    -- to the right: the entry at the place before; before the first one, the last
    pub right_more : 0 < at → rolled (at - 1) (entries n l) ≡ roll_right (rolled t (entries n l))
    right_more h =
        let some : at < length (entries n l) = at_within (omega (arith, e, place_most n t)) in
        let again : (at - 1) + 1 ≡ at = omega arith in
        sym (right_at (entries n l) (at - 1) (omega arith)) ∙ ap (λ (k : ℕ). roll_right (rolled k (entries n l))) again ∙ ap roll_right at_place

    pub right_first : at ≡ 0 → rolled (n - 1) (entries n l) ≡ roll_right (rolled t (entries n l))
    unfolding roll_right
    right_first z =
        let same : rolled t (entries n l) ≡ entries n l = sym at_place ∙ rw z (rolled_zero (entries n l)) in
        rw (same, length_entries n l)

    -- an entry: before the end of the slice, and around it
    pub entry_more : (i : ℕ) → i < n - at → get_or l (at + i) 0 ≡ get_or (rolled t (entries n l)) i 0
    entry_more i h =
        sym (ap (λ (b : List ℕ). get_or b i 0) (sym at_place) ∙ entry_before (entries n l) at (at_within (omega arith)) i (omega (arith, length_entries n l))
        ∙ entry_of n l (at + i) (omega arith))

    pub entry_past : (i : ℕ) → i < n → n - at ≤ i → get_or l (i - (n - at)) 0 ≡ get_or (rolled t (entries n l)) i 0
    entry_past i h k =
        let some : at < length (entries n l) = at_within (omega arith) in
        let size : length (entries n l) ≡ n = length_entries n l in
        let sum : (length (entries n l) - at) + (i - (n - at)) ≡ i = omega arith in
        sym (ap (λ (b : List ℕ). get_or b i 0) (sym at_place) ∙ ap (λ (k : ℕ). get_or (rolled at (entries n l)) k 0) (sym sum)
        ∙ entry_around (entries n l) at some (i - (n - at)) (omega arith) ∙ entry_of n l (i - (n - at)) (omega arith))

pub entry_none : (n t : ℕ) (l : List ℕ) (i : ℕ) → n ≤ i → 0 ≡ get_or (rolled t (entries n l)) i 0
entry_none n t l i h = sym (get_or-eq_default (rolled t (entries n l)) 0 (omega (arith, length_rolled t (entries n l), length_entries n l)))

-- fewer entries, and the entries from a place on
take_entries : (p n : ℕ) (l : List ℕ) → p ≤ n → take p (entries n l) ≡ entries p l
unfolding entries
take_entries zero n l h = refl
take_entries (suc p) zero l h = absurd (omega arith)
take_entries (suc p) (suc n) l h = ap (λ (b : List ℕ). get_or l 0 0 ∷ b) (take_entries p n (drop 1 l) (omega arith))

-- one more entry put
pub entry_put : (b out : List ℕ) (i at : ℕ) {whole : List ℕ} → i < length b → sets out at (drop i b) ≡ whole →
    sets (set out at (get_or b i 0)) (at + 1) (drop (i + 1) b) ≡ whole
entry_put b out i at h e = rw (add-one at, add-one i) (rw (drop-cons b i 0 h) at e)

-- the entries from the first one on, then those before it, put one after the other
pub parts_put : (n t : ℕ) (l out : List ℕ) (at : ℕ) {p : ℕ} → p ≡ first_place n t → p ≤ n →
    sets (sets out at (drop p (entries n l))) (at + (n - p)) (drop 0 (entries p l)) ≡ sets out at (rolled t (entries n l))
unfolding rolled
parts_put n t l out at {p} e h =
    let size : length (drop p (entries n l)) ≡ n - p = length-drop p (entries n l) ∙ rw (length_entries n l) in
    sym (ap (sets out at) (sym (at_place n t l e) ∙ ap (λ (b : List ℕ). drop p (entries n l) ++ b) (take_entries p n l h))
    ∙ sets_append out at (drop p (entries n l)) (entries p l) ∙ rw size)
