-- The rows of the receiver, one law for each case of a byte.
-- Assumes nothing.
use mathlib.Core.Path.{◌≡◌}
use mathlib.Core.Bool.{false}
use mathlib.Core.List.{List, [], ◌∷◌}
use Prim.Native.Nat.{ℕ, ◌+◌, ◌-◌, ◌≤◌, ◌<◌}
use borrow.Author.Tests.{eq-eqb, ne_eqb, lt-ltb, le-ltb, le-leb, lt-leb}
use lib.ListN.{length, set, take}
use lib.Seq.{sets, length-take-le}
use Rattle.base.proofs.Places.{sets_placed}
use Rattle.base.specs.Places.{placed}
use Rattle.base.specs.Words.{word}
use Rattle.crc16.specs.Ccitt.{ccitt_start, ccitt_byte, ccitt_over}
use Rattle.gate_telegram.specs.Telegram.{start_byte, reserved, max_data, slave_token}
use Rattle.gate_receive.specs.Receive.{nothing, telegram, token, refuses, to, starting_again, storing, judging, rest_of, destination_of, length_of, data_of, accepted_of, judged_of, dropping_of}
use Rattle.gate_receive.specs.declared.GateState.TheVariants.{Rest, AtDestination, AtSource, AtData, AtLowCheck, OthersSource, Dropping}

module _ (b : ℕ) where
  pub rest_start : b ≡ start_byte → rest_of b ≡ to nothing AtDestination
  unfolding rest_of
  rest_start e = simp (eq-eqb _ _ e)

  pub rest_other : (b ≡ start_byte → ⊥) → rest_of b ≡ to nothing Rest
  unfolding rest_of
  rest_other e = simp (ne_eqb _ _ e)

module _ (own b : ℕ) where
  pub destination_own : b ≡ own →
      destination_of own b ≡ to nothing (AtSource b (ccitt_over ccitt_start (start_byte ∷ b ∷ [])))
  unfolding destination_of
  destination_own e = simp (eq-eqb _ _ e)

  pub destination_other : (b ≡ own → ⊥) → destination_of own b ≡ to nothing OthersSource
  unfolding destination_of
  destination_other e = simp (ne_eqb _ _ e)

module _ (d s c b : ℕ) where
  pub length_good : b ≤ max_data → length_of d s c b ≡ to nothing (AtData d s b 0 (ccitt_byte c b))
  unfolding length_of
  length_good h = simp (le-ltb _ _ h)

module _ (d s n k c b : ℕ) (st : List ℕ) where
  pub data_stored : k < n →
      data_of d s n k c b st ≡ storing (to nothing (AtData d s n (k + 1) (ccitt_byte c b))) (set st k b)
  unfolding data_of
  data_stored h = simp (lt-ltb _ _ h)

  pub data_high_check : n ≤ k → data_of d s n k c b st ≡ storing (to nothing (AtLowCheck d s n c b)) st
  unfolding data_of
  data_high_check h = simp (le-ltb _ _ h)

module _ (s n : ℕ) (st out : List ℕ) where
  pub accepted_token : n ≡ 0 → accepted_of s n st out ≡ judging (starting_again (token s)) out
  unfolding accepted_of
  accepted_token e = simp (eq-eqb _ _ e)

  pub accepted_short : (n ≡ 0 → ⊥) → length out < n →
      accepted_of s n st out ≡ judging (starting_again (refuses 11)) out
  unfolding accepted_of
  accepted_short e h = simp (ne_eqb _ _ e, lt-ltb _ _ h)

  pub accepted_data : (n ≡ 0 → ⊥) → n ≤ length out →
      accepted_of s n st out ≡ judging (starting_again (telegram s n)) (placed (take n st) out)
  unfolding accepted_of
  accepted_data e h = simp (ne_eqb _ _ e, le-ltb _ _ h)

-- the data of the store, put into the output
pub data_put : (n : ℕ) (st out : List ℕ) → n ≤ length st → n ≤ length out →
    sets out 0 (take n st) ≡ placed (take n st) out
data_put n st out h k = sets_placed (take n st) out (rw (length-take-le n st h) k)

module _ (d s n c h b : ℕ) (st out : List ℕ) where
  pub wrong_check : (word h b ≡ c → ⊥) → judged_of d s n c h b st out ≡ judging (starting_again (refuses 15)) out
  unfolding judged_of
  wrong_check e = simp (ne_eqb _ _ e)

  pub right_check : word h b ≡ c → (s ≡ reserved → ⊥) → slave_token d s n ≡ false →
      judged_of d s n c h b st out ≡ accepted_of s n st out
  unfolding judged_of
  right_check e f t = simp (eq-eqb _ _ e, ne_eqb _ _ f, t)

module _ (left : ℕ) where
  pub last_dropped : left ≤ 1 → dropping_of left ≡ to nothing Rest
  unfolding dropping_of
  last_dropped h = simp (le-leb _ _ h)

  pub one_dropped : 1 < left → dropping_of left ≡ to nothing (Dropping (left - 1))
  unfolding dropping_of
  one_dropped h = simp (lt-leb _ _ h)
