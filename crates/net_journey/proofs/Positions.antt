-- The block at each position of a journey: its first entries, how a roll moves it, and that it stays faultless.
-- Assumes nothing.
use mathlib.Core.Path.{◌≡◌, refl, sym, ◌∙◌, subst}
use mathlib.Core.Bool.{true}
use mathlib.Core.List.{List, [], ◌∷◌, ◌++◌, reverse, reverse-cons, reverse-reverse, append_assoc}
use Prim.Native.Nat.{ℕ, suc, ◌+◌, ◌≤◌}
use native.Mathlib.Omega.{arith}
use lib.ListN.{length, length-append, length-replicate, length-reverse}
use Rattle.mop_block.specs.Block.{good_block, first, next, roll_left, roll_right}
use Rattle.mop_block.specs.Zipper.{spread, returned, Full, nil, cons, Once, Zipper}
use Rattle.mop_block.proofs.Rolls.{length_left, length_right}
use Rattle.mop_block.proofs.Stations.{full_append, full_reverse}
use Rattle.mop_block.proofs.Zipper.{has_view, view_is_good, returned_is_good, left_moves, right_moves, right_returns}
use Rattle.mop_reader.specs.Reading.{max_telegram}
use Rattle.mop_reader.specs.ReadBack.{sized}
use Rattle.mop_header.specs.declared.Form.{Form}
use Rattle.mop_header.proofs.Lengths.{header_room}
use Rattle.net_journey.proofs.Telegrams.{Faultless}

-- the first entries of a block
module _ (p : ℕ) (ahead : List ℕ) (z : ℕ) (passed : List ℕ) where
  pub first_ahead : first (spread (suc p ∷ ahead) z passed) ≡ suc p
  unfolding first
  first_ahead = refl

  pub next_ahead : (a : ℕ) → next (spread (a ∷ suc p ∷ ahead) z passed) ≡ 0 → ⊥
  unfolding next
  next_ahead a e = omega arith

pub next_zero : (a z : ℕ) (passed : List ℕ) → next (spread (a ∷ []) z passed) ≡ 0
unfolding next
next_zero a z passed = refl

pub first_returned : (ahead : List ℕ) (z : ℕ) → first (returned ahead z) ≡ 0
unfolding first
first_returned ahead z = refl

-- the station that is moved, by a roll, between the ones ahead and the ones passed
module _ (s : ℕ) (ahead back : List ℕ) where
  pub same_ring : reverse (suc s ∷ back) ++ ahead ≡ reverse back ++ (suc s ∷ ahead)
  same_ring = rw (reverse-cons, append_assoc)

  pub moved_on : (z : ℕ) → roll_left (spread (suc s ∷ ahead) z (reverse back)) ≡ spread ahead z (reverse (suc s ∷ back))
  moved_on z = rw reverse-cons (left_moves (suc s) ahead z (reverse back))

  pub moved_back : (z : ℕ) → roll_right (spread ahead z (reverse (suc s ∷ back))) ≡ spread (suc s ∷ ahead) z (reverse back)
  moved_back z = rw reverse-cons (right_moves ahead z (reverse back) (suc s))

pub length_spread : (ahead : List ℕ) (z : ℕ) (back : List ℕ) → length (spread ahead z (reverse back)) ≡ length ahead + suc z + length back
length_spread ahead z back = simp (length-append, length-replicate, length-reverse) (omega arith)

-- the stations in the order of the ring, and the block's length, stay
module _ (form : Form) (z : ℕ) (ring : List ℕ) (n : ℕ) (once : Once ring) (size : sized form n ≡ true) where
  pub faultless_at : {ahead back : List ℕ} (body : List ℕ) → Full ahead → Full back → reverse back ++ ahead ≡ ring →
      length ahead + suc z + length back ≡ n → header_room form n + length body ≤ max_telegram → Faultless form (spread ahead z (reverse back)) body
  faultless_at {ahead} {back} body f g e count short =
      let long : length (spread ahead z (reverse back)) ≡ n = length_spread ahead z back ∙ count in
      record {
        good = view_is_good ahead z (reverse back) f (full_reverse g) (subst Once (sym e) once);
        size = rw long size;
        short = rw long short;
      }

  pub faultless_home : (ahead body : List ℕ) → Full ahead → ahead ≡ ring → length ahead + suc z ≡ n →
      header_room form n + length body ≤ max_telegram → Faultless form (returned ahead z) body
  faultless_home ahead body f e count short =
      let long : length (returned ahead z) ≡ n = simp (length-append, length-replicate) (omega arith) in
      record { good = returned_is_good ahead z f (subst Once (sym e) once); size = rw long size; short = rw long short }

-- a block that begins with a station, rolled either way
good_left : {b : List ℕ} → Zipper b → good_block (roll_left b) ≡ true
good_left v =
    let a = suc v.here in
    let once = subst Once (sym (append_assoc v.passed (a ∷ []) v.ahead)) v.once in
    rw (v.is, left_moves a v.ahead v.gap v.passed)
    (view_is_good v.ahead v.gap (v.passed ++ (a ∷ [])) v.full_ahead (full_append v.full_passed (cons nil)) once)

right_by : (ahead : List ℕ) (z : ℕ) {back : List ℕ} → Full ahead → Full back → Once (reverse back ++ ahead) →
    good_block (roll_right (spread ahead z (reverse back))) ≡ true
right_by ahead z f nil once = rw (right_returns ahead z) (returned_is_good ahead z f once)
right_by ahead z f (cons {a = s} {xs = back} g) once =
    rw (moved_back s ahead back z)
    (view_is_good (suc s ∷ ahead) z (reverse back) (cons f) (full_reverse g) (subst Once (same_ring s ahead back) once))

good_right : {b : List ℕ} → Zipper b → good_block (roll_right b) ≡ true
good_right v =
    let ahead = suc v.here ∷ v.ahead in
    let passed = sym (reverse-reverse v.passed) in
    rw v.is (subst (λ (l : List ℕ). good_block (roll_right (spread ahead v.gap l)) ≡ true) (sym passed)
    (right_by ahead v.gap (cons v.full_ahead) (full_reverse v.full_passed) (subst (λ (l : List ℕ). Once (l ++ ahead)) passed v.once)))

-- so the telegram stays faultless
module _ {form : Form} {b body : List ℕ} (w : Faultless form b body) where
  stays : (d : List ℕ) → length d ≡ length b → good_block d ≡ true → Faultless form d body
  stays d e g = record { good = g; size = rw e w.size; short = rw e w.short }

  module _ (some : first b ≡ 0 → ⊥) where
    pub faultless_left : Faultless form (roll_left b) body
    faultless_left = stays (roll_left b) (length_left b) (good_left (has_view b w.good some))

    pub faultless_right : Faultless form (roll_right b) body
    faultless_right = stays (roll_right b) (length_right b) (good_right (has_view b w.good some))
