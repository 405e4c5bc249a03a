-- The station before the 00s around the ring: the destination is where it is next to be called, and a relay that rolls the block
-- of a request leaves it the same.
-- Assumes nothing.
use mathlib.Core.Path.{◌≡◌, sym, ◌∙◌, ap, subst}
use mathlib.Core.Bool.{true}
use mathlib.Core.List.{List, [], ◌∷◌}
use Prim.Native.Nat.{ℕ, suc}
use Rattle.mop_block.specs.Block.{good_block, first, next, roll_left}
use Rattle.mop_block.specs.Zipper.{spread, Full, nil, cons, Zipper}
use Rattle.mop_block.proofs.Stations.{full_append}
use Rattle.mop_block.proofs.Zipper.{has_view, left_moves}
use Rattle.net_journey.specs.Terms.{before_zeros}
use Rattle.net_journey.proofs.Positions.{first_ahead, next_ahead, next_zero}
use Rattle.net_journey.proofs.Ring.{before_zeros_lem}

module _ (p z : ℕ) {passed : List ℕ} (g : Full passed) where
  abbrev block : List ℕ → List ℕ
  block ahead = spread (suc p ∷ ahead) z passed

  last_ahead : {ahead : List ℕ} → Full ahead → next (block ahead) ≡ 0 → before_zeros (block ahead) ≡ first (block ahead)
  last_ahead nil e = before_zeros_lem p z nil g ∙ sym (first_ahead p [] z passed)
  last_ahead (cons {a = q} {xs = ahead} f) e = absurd (next_ahead q ahead z passed (suc p) e)

  more_ahead : {ahead : List ℕ} → Full ahead → (next (block ahead) ≡ 0 → ⊥) → before_zeros (roll_left (block ahead)) ≡ before_zeros (block ahead)
  more_ahead nil n = absurd (n (next_zero (suc p) z passed))
  more_ahead (cons {a = q} {xs = ahead} f) n =
      ap before_zeros (left_moves (suc p) (suc q ∷ ahead) z passed)
      ∙ before_zeros_lem q z f (full_append g (cons nil)) ∙ sym (before_zeros_lem p z (cons f) g)

module _ (b : List ℕ) (good : good_block b ≡ true) (some : first b ≡ 0 → ⊥) where
  view : Zipper b
  view = has_view b good some

  -- a station with a 00 behind it is the destination
  pub destination_first : next b ≡ 0 → before_zeros b ≡ first b
  destination_first =
      subst (λ (l : List ℕ). next l ≡ 0 → before_zeros l ≡ first l) (sym view.is)
      (last_ahead view.here view.gap view.full_passed view.full_ahead)

  -- one with a station behind it is not, and the destination stays
  pub destination_stays : (next b ≡ 0 → ⊥) → before_zeros (roll_left b) ≡ before_zeros b
  destination_stays =
      subst (λ (l : List ℕ). (next l ≡ 0 → ⊥) → before_zeros (roll_left l) ≡ before_zeros l) (sym view.is)
      (more_ahead view.here view.gap view.full_passed view.full_ahead)
