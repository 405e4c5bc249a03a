-- The last station ahead is the one before the 00s around the ring; and what the first and the last entry of a block tell.
-- Assumes nothing.
use mathlib.Core.Path.{◌≡◌, refl, sym, ◌∙◌, ap}
use mathlib.Core.List.{List, [], ◌∷◌, ◌++◌, append_assoc}
use Prim.Native.Nat.{ℕ, zero, suc, ◌-◌, ◌≤◌}
use native.Mathlib.Omega.{arith}
use lib.ListN.{length, get_or}
use Rattle.mop_block.specs.Block.{stations, around, first}
use Rattle.mop_block.specs.Zipper.{zeros, spread, Full, nil, cons}
use Rattle.net_journey.specs.Terms.{before_zero, before_zeros}

-- the last entry of a list, 0 in an empty one
abbrev pub last_of : List ℕ → ℕ
last_of [] = 0
last_of (x ∷ []) = x
last_of (x ∷ y ∷ xs) = last_of (y ∷ xs)

pub last_append : (xs : List ℕ) (y : ℕ) (ys : List ℕ) → last_of (xs ++ (y ∷ ys)) ≡ last_of (y ∷ ys)
last_append [] y ys = refl
last_append (x ∷ []) y ys = refl
last_append (x ∷ w ∷ xs) y ys = last_append (w ∷ xs) y ys

pub last_at : (l : List ℕ) → get_or l (length l - 1) 0 ≡ last_of l
last_at [] = refl
last_at (x ∷ []) = refl
last_at (x ∷ y ∷ l) =
    let less : length (x ∷ y ∷ l) - 1 ≡ suc (length (y ∷ l) - 1) = omega arith in
    rw less (last_at (y ∷ l))

-- stations, and a 00 behind them
before_full : (p : ℕ) {ahead : List ℕ} → Full ahead → (ys : List ℕ) → before_zero (suc p ∷ (ahead ++ (0 ∷ ys))) ≡ last_of (suc p ∷ ahead)
unfolding before_zero
before_full p nil ys = refl
before_full p (cons {a = a} f) ys = before_full a f ys

pub before_zeros_lem : (p : ℕ) {ahead passed : List ℕ} (z : ℕ) → Full ahead → Full passed →
    before_zeros (spread (suc p ∷ ahead) z passed) ≡ last_of (suc p ∷ ahead)
unfolding around
before_zeros_lem p {ahead} {passed} z f g =
    ap (λ (l : List ℕ). before_zero (suc p ∷ l)) (append_assoc ahead (0 ∷ (zeros z ++ passed)) (suc p ∷ []))
    ∙ before_full p f ((zeros z ++ passed) ++ (suc p ∷ []))

-- where the last entry is 00, nothing is passed yet
last_full : (a : ℕ) {xs : List ℕ} → Full xs → last_of (suc a ∷ xs) ≡ 0 → ⊥
last_full a nil e = omega arith
last_full a (cons {a = b} f) e = last_full b f e

pub none_passed : (ahead : List ℕ) (z : ℕ) {passed : List ℕ} → Full passed → last_of (spread ahead z passed) ≡ 0 → passed ≡ []
none_passed ahead z nil e = refl
none_passed ahead z (cons {a = a} {xs = xs} f) e =
    let apart : spread ahead z (suc a ∷ xs) ≡ (ahead ++ (0 ∷ zeros z)) ++ (suc a ∷ xs) = simp append_assoc in
    absurd (last_full a f (sym (ap last_of apart ∙ last_append (ahead ++ (0 ∷ zeros z)) (suc a) xs) ∙ e))

-- a block that names nobody begins with 00, and one that begins with a station names somebody
pub none_named : (b : List ℕ) → length (stations b) ≡ 0 → first b ≡ 0
unfolding stations first
none_named [] e = refl
none_named (zero ∷ b) e = refl
none_named (suc a ∷ b) e = absurd (omega arith)

pub some_named : (b : List ℕ) → (first b ≡ 0 → ⊥) → 1 ≤ length (stations b)
unfolding stations first
some_named [] n = absurd (n refl)
some_named (zero ∷ b) n = absurd (n refl)
some_named (suc a ∷ b) n = omega arith
