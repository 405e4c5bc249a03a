-- One pass over a block: what was seen of the entries passed, and the entries left, decide together.
-- Assumes nothing.
use mathlib.Core.Path.{◌≡◌, refl, sym, ◌∙◌}
use mathlib.Core.Bool.{Bool, true, false, not, ◌&&◌, ◌||◌, or-true, or-false, and-true}
use mathlib.Core.List.{List, [], ◌∷◌}
use Prim.Native.Nat.{ℕ, suc, ◌+◌, ◌-◌, ◌≤◌, ◌<◌}
use native.Mathlib.Nat.{add-zero, zero-add}
use native.Mathlib.Numerals.{add-one}
use native.Mathlib.Omega.{arith}
use lib.Dec.{leb}
use lib.ListN.{length, get_or, set, drop, replicate, drop_of_length-le}
use lib.Seq.{drop-cons}
use borrow.Author.Tests.{ne_eqb}
use Rattle.mop_block.specs.Block.{is_address, has, stations, zero_ends, good_block}
use Rattle.mop_block.proofs.Ends.{ends_single, ends_next, ends_ring}
use Rattle.mop_block.proofs.Seen.{all_new, new_clear}
use Rattle.mop_block.proofs.Scan.{named}

-- the block rule, by whether a 00 was passed, how often 00s ended, the last entry passed, the stations seen, and
-- the entries left
unfoldable pub good_from : Bool → ℕ → ℕ → List Bool → List ℕ → Bool
good_from zero ends last seen rest = (zero || has 0 rest) && leb (ends + zero_ends (last ∷ rest)) 1 && all_new seen (stations rest)

pub good_none : (b : List ℕ) → length b ≡ 0 → good_block b ≡ false
unfolding good_block has
good_none [] e = refl
good_none (x ∷ xs) e = absurd (omega arith)

-- before the first entry the last one was passed
pub good_start : (b : List ℕ) → 0 < length b → good_from false 0 (get_or b (length b - 1) 0) (replicate 256 false) b ≡ good_block b
unfolding good_from good_block
good_start b h = rw (zero-add, ends_ring b h, new_clear (stations b))

-- an entry more
ends_sum : (ends last x : ℕ) (rest : List ℕ) → ends + zero_ends (last ∷ x ∷ rest) ≡ ends + zero_ends (last ∷ x ∷ []) + zero_ends (x ∷ rest)
ends_sum ends last x rest = omega (arith, ends_next last x rest)

take_zero : (zero : Bool) (ends last : ℕ) (seen : List Bool) (rest : List ℕ) →
    good_from zero ends last seen (0 ∷ rest) ≡ good_from true (ends + zero_ends (last ∷ 0 ∷ [])) 0 seen rest
unfolding good_from has stations
take_zero zero ends last seen rest = rw (ends_sum ends last 0 rest, or-true zero)

aside : (g t f : Bool) → g && (t && f) ≡ t && (g && f)
aside true t f = refl
aside false true f = refl
aside false false f = refl

take_station : (zero : Bool) (ends last : ℕ) (seen : List Bool) (x : ℕ) (rest : List ℕ) → (x ≡ 0 → ⊥) →
    good_from zero ends last seen (x ∷ rest) ≡
    is_address x && not (get_or seen x false) && good_from zero (ends + zero_ends (last ∷ x ∷ [])) x (set seen x true) rest
unfolding good_from has all_new
take_station zero ends last seen x rest d =
    rw (ends_sum ends last x rest, ne_eqb 0 x (λ e. d (sym e)), named x rest d)
    (aside ((zero || has 0 rest) && leb (ends + zero_ends (last ∷ x ∷ []) + zero_ends (x ∷ rest)) 1) (is_address x && not (get_or seen x false))
    (all_new (set seen x true) (stations rest)))

-- the entry at place i
module _ (b : List ℕ) (i : ℕ) (zero : Bool) (ends last : ℕ) (seen : List Bool) where
  module _ (h : i < length b) where
    pub pass_zero : get_or b i 0 ≡ 0 →
        good_from zero ends last seen (drop i b) ≡ good_from true (ends + zero_ends (last ∷ get_or b i 0 ∷ [])) (get_or b i 0) seen (drop (i + 1) b)
    pass_zero e = rw (add-one, drop-cons b i 0 h, e) (take_zero zero ends last seen (drop (suc i) b))

    module _ (d : get_or b i 0 ≡ 0 → ⊥) where
      pub pass_refused : is_address (get_or b i 0) && not (get_or seen (get_or b i 0) false) ≡ false → good_from zero ends last seen (drop i b) ≡ false
      pass_refused e = rw (drop-cons b i 0 h) (take_station zero ends last seen (get_or b i 0) (drop (suc i) b) d ∙ rw e)

      pub pass_station : is_address (get_or b i 0) && not (get_or seen (get_or b i 0) false) ≡ true → good_from zero ends last seen (drop i b) ≡
          good_from zero (ends + zero_ends (last ∷ get_or b i 0 ∷ [])) (get_or b i 0) (set seen (get_or b i 0) true) (drop (i + 1) b)
      pass_station e = rw (add-one, drop-cons b i 0 h) (take_station zero ends last seen (get_or b i 0) (drop (suc i) b) d ∙ rw e)

  -- and behind the last one
  pub pass_end : length b ≤ i → good_from zero ends last seen (drop i b) ≡ zero && leb ends 1
  unfolding good_from has stations all_new
  pass_end h = rw (drop_of_length-le b h, ends_single last, add-zero, or-false zero, and-true (zero && leb ends 1))
