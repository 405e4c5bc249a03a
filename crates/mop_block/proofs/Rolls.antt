-- The rolls of a block: they keep its length, and move the entry at one end to the other.
-- Assumes nothing.
use mathlib.Core.Path.{◌≡◌, refl}
use mathlib.Core.List.{List, [], ◌∷◌, ◌++◌}
use Prim.Native.Nat.{ℕ, ◌-◌, ◌<◌}
use native.Mathlib.Omega.{arith}
use lib.ListN.{length, length-append, length-take, length-drop}
use lib.Seq.{take_at, drop_at}
use Rattle.mop_block.specs.Block.{rolled, roll_left, roll_right}

pub length_rolled : (k : ℕ) (b : List ℕ) → length (rolled k b) ≡ length b
unfolding rolled
length_rolled k b = simp (length-append, length-take, length-drop) (omega arith)

pub length_left : (b : List ℕ) → length (roll_left b) ≡ length b
unfolding roll_left
length_left b = length_rolled 1 b

pub length_right : (b : List ℕ) → length (roll_right b) ≡ length b
unfolding roll_right
length_right b = length_rolled (length b - 1) b

pub left_cons : (x : ℕ) (xs : List ℕ) → roll_left (x ∷ xs) ≡ xs ++ (x ∷ [])
unfolding roll_left rolled
left_cons x xs = refl

pub right_snoc : (xs : List ℕ) (x : ℕ) → roll_right (xs ++ (x ∷ [])) ≡ x ∷ xs
unfolding roll_right rolled
right_snoc xs x =
    let e : length (xs ++ (x ∷ [])) - 1 ≡ length xs = simp length-append (omega arith) in
    rw (e, drop_at xs (x ∷ []) (length xs) refl, take_at xs (x ∷ []) (length xs) refl)

-- to the left, and back
pub right_left : (b : List ℕ) → 0 < length b → roll_right (roll_left b) ≡ b
right_left [] h = absurd (omega arith)
right_left (x ∷ b) h = rw (left_cons x b) (right_snoc b x)
