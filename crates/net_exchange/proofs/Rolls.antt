-- The way out and back as rolls of the block: the last telegram has the first block rolled right once.
-- Assumes nothing.
use mathlib.Core.Path.{◌≡◌, refl, ◌∙◌, ap}
use mathlib.Core.List.{List, [], ◌∷◌, ◌++◌, map}
use Prim.Native.Nat.{ℕ, zero, suc, ◌<◌}
use lib.ListN.{length}
use Rattle.mop_block.specs.Block.{roll_left, roll_right}
use Rattle.mop_block.proofs.Rolls.{length_left, right_left}
use Rattle.net_journey.specs.Terms.{last_telegram}
use Rattle.net_journey.specs.Transmissions.{relayed_block, homeward}

-- the block after so many replies
abbrev rolled_back : ℕ → List ℕ → List ℕ
rolled_back zero b = b
rolled_back (suc k) b = rolled_back k (roll_right b)

-- one more relay, and one more reply, at the end of the way instead of its beginning
relay_last : (k : ℕ) (b : List ℕ) → relayed_block k (roll_left b) ≡ roll_left (relayed_block k b)
relay_last zero b = refl
relay_last (suc k) b = relay_last k (roll_left b)

back_last : (k : ℕ) (b : List ℕ) → rolled_back k (roll_right b) ≡ roll_right (rolled_back k b)
back_last zero b = refl
back_last (suc k) b = back_last k (roll_right b)

length_relayed : (k : ℕ) (b : List ℕ) → length (relayed_block k b) ≡ length b
length_relayed zero b = refl
length_relayed (suc k) b = length_relayed k (roll_left b) ∙ length_left b

-- as many replies as relays bring the first block back
back_again : (k : ℕ) (b : List ℕ) → 0 < length b → rolled_back k (relayed_block k b) ≡ b
back_again zero b some = refl
back_again (suc k) b some =
    ap (λ (d : List ℕ). rolled_back k (roll_right d)) (relay_last k b)
    ∙ ap (rolled_back k) (right_left (relayed_block k b) (rw (length_relayed k b) some))
    ∙ back_again k b some

-- the last of the replies
last_home : (f : List ℕ → List ℕ) (k : ℕ) (b : List ℕ) → last_telegram (map f (homeward (suc k) b)) ≡ f (rolled_back (suc k) b)
unfolding last_telegram
last_home f zero b = refl
last_home f (suc k) b = last_home f k (roll_right b)

pub last_behind : (xs : List (List ℕ)) (y : List ℕ) (ys : List (List ℕ)) → last_telegram (xs ++ (y ∷ ys)) ≡ last_telegram (y ∷ ys)
unfolding last_telegram
last_behind [] y ys = refl
last_behind (x ∷ []) y ys = refl
last_behind (x ∷ z ∷ xs) y ys = last_behind (z ∷ xs) y ys

pub last_reply : (requests : List (List ℕ)) (f : List ℕ → List ℕ) (k : ℕ) (b : List ℕ) → 0 < length b →
    last_telegram (requests ++ map f (homeward (suc k) (relayed_block k b))) ≡ f (roll_right b)
last_reply requests f k b some =
    let d = relayed_block k b in
    last_behind requests (f (roll_right d)) (map f (homeward k (roll_right d)))
    ∙ last_home f k d
    ∙ ap f (back_last k d ∙ ap roll_right (back_again k b some))
