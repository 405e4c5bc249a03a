-- The counts of a state, and the guards of an event.
-- Assumes nothing.
use mathlib.Core.Path.{◌≡◌, ◌∙◌}
use mathlib.Core.Bool.{false}
use mathlib.Core.List.{List}
use Prim.Native.Nat.{ℕ, ◌≤◌}
use borrow.Author.Tests.{eq-eqb, ne_eqb, le-ltb, ltb-false}
use lib.Dec.{ltb}
use lib.ListN.{length}
use Rattle.base.proofs.Tests.{neither}
use Rattle.gate_telegram.specs.Telegram.{reserved, max_data}
use Rattle.gate_receive.specs.Receive.{byte_of, event_of, overcounts, receive_of}
use Rattle.gate_receive.specs.declared.GateState.{GateState}
use Rattle.gate_receive.specs.declared.GateState.TheVariants.{AtData, AtLowCheck, Dropping}
use Rattle.events.specs.declared.Event.{Event}
use Rattle.events.specs.declared.Event.TheVariants.{Byte}

module _ (d s n k c : ℕ) where
  pub data_counts : n ≤ max_data → overcounts (AtData d s n k c) ≡ ltb n k
  unfolding overcounts
  data_counts h = simp (le-ltb _ _ h)

  pub data_within : n ≤ max_data → k ≤ n → overcounts (AtData d s n k c) ≡ false
  data_within h i = data_counts h ∙ le-ltb n k i

  pub data_bounds : overcounts (AtData d s n k c) ≡ false → (n ≤ max_data) × (k ≤ n)
  unfolding overcounts
  data_bounds e =
      let t = neither (ltb max_data n) (ltb n k) e in
      (ltb-false max_data n t.0, ltb-false n k t.1)

module _ (d s n c h : ℕ) where
  pub low_check_within : n ≤ max_data → overcounts (AtLowCheck d s n c h) ≡ false
  unfolding overcounts
  low_check_within i = le-ltb max_data n i

  pub low_check_bound : overcounts (AtLowCheck d s n c h) ≡ false → n ≤ max_data
  unfolding overcounts
  low_check_bound e = ltb-false max_data n e

pub dropping_within : (left : ℕ) → left ≤ 257 → overcounts (Dropping left) ≡ false
unfolding overcounts
dropping_within left h = le-ltb 257 left h

module _ (own : ℕ) (s : GateState) (st : List ℕ) (e : Event) (out : List ℕ) where
  pub receive_event : length st ≡ max_data → overcounts s ≡ false → (own ≡ reserved → ⊥) →
      receive_of own s st e out ≡ event_of own s st e out
  unfolding receive_of
  receive_event h k f = simp (eq-eqb _ _ h, k, ne_eqb _ _ f)

module _ (own : ℕ) (s : GateState) (st out : List ℕ) where
  pub receive_byte : (b : ℕ) → length st ≡ max_data → overcounts s ≡ false → (own ≡ reserved → ⊥) →
      receive_of own s st (Byte b) out ≡ byte_of own s b st out
  unfolding event_of
  receive_byte b h k f = receive_event own s st (Byte b) out h k f
