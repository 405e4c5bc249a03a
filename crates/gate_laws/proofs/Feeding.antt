-- One byte more is fed, in each case that a telegram goes through.
-- Assumes nothing.
use mathlib.Core.Path.{◌≡◌, refl, ap, ◌∙◌}
use mathlib.Core.Bool.{false}
use mathlib.Core.List.{List, [], ◌∷◌}
use Prim.Native.Nat.{ℕ, ◌+◌, ◌-◌, ◌≤◌, ◌<◌}
use native.Mathlib.Omega.{arith}
use lib.ListN.{length, set}
use Rattle.base.specs.Words.{high_byte, low_byte}
use Rattle.base.proofs.Words.{word_bytes}
use Rattle.crc16.specs.Check.{run_over}
use Rattle.crc16.specs.Ccitt.{ccitt_start, ccitt_byte, ccitt_over}
use Rattle.gate_telegram.specs.Telegram.{start_byte, reserved, max_data, slave_token}
use Rattle.gate_telegram.proofs.Telegrams.{opening}
use Rattle.gate_receive.specs.Receive.{Response, Reaction, Outcome, Storing, Judging, nothing, to, starting_again, with, judging, source_of, others_length_of, accepted_of, byte_of, overcounts}
use Rattle.gate_receive.specs.declared.GateState.{GateState}
use Rattle.gate_receive.specs.declared.GateState.TheVariants.{Rest, AtDestination, AtSource, AtLength, AtData, AtLowCheck, OthersSource, OthersLength, Dropping}
use Rattle.gate_receive.proofs.Bounds.{receive_byte, data_within, low_check_within, dropping_within}
use Rattle.gate_receive.proofs.Rows.{rest_start, rest_other, destination_own, destination_other, length_good, data_stored, data_high_check, right_check, last_dropped, one_dropped}
use Rattle.gate_laws.specs.Feeding.{Fed, after, feed}

pub fed_none : (own : ℕ) (s : GateState) (st out : List ℕ) →
    feed own s st out [] ≡ record { answers = []; state = s; store = st; output = out }
unfolding feed
fed_none own s st out = refl

-- an answer before others
pub before : (r : Response) {f g : Fed} → f ≡ g → after (r ∷ []) f ≡ after (r ∷ []) g
before r e = ap (after (r ∷ [])) e

-- the check over what stands before the data, as the receiver takes it
check_opening : (d s n : ℕ) →
    ccitt_byte (ccitt_byte (ccitt_over ccitt_start (start_byte ∷ d ∷ [])) s) n ≡ ccitt_over ccitt_start (opening d s n)
unfolding ccitt_over run_over
check_opening d s n = refl

module _ (own : ℕ) (st out : List ℕ) (long : length st ≡ max_data) (had : own ≡ reserved → ⊥) where
  -- a byte at a state that does not overcount
  fed : (s : GateState) (b : ℕ) (bs : List ℕ) {o : Outcome} → overcounts s ≡ false → byte_of own s b st out ≡ o →
      feed own s st out (b ∷ bs) ≡ after (o.reaction.response ∷ []) (feed own o.reaction.next o.store o.output bs)
  unfolding feed
  fed s b bs k e =
      ap (λ (o : Outcome). after (o.reaction.response ∷ []) (feed own o.reaction.next o.store o.output bs))
      (receive_byte own s st out b long k had ∙ e)

  -- one that gets nothing, and leaves store and output
  passed : (s next : GateState) (b : ℕ) (bs : List ℕ) {r : Reaction} → overcounts s ≡ false → byte_of own s b st out ≡ with r st out →
      r ≡ to nothing next → feed own s st out (b ∷ bs) ≡ after (nothing ∷ []) (feed own next st out bs)
  passed s next b bs k e f = fed s b bs k (e ∙ ap (λ (r : Reaction). with r st out) f)

  pub fed_other : (b : ℕ) (bs : List ℕ) → (b ≡ start_byte → ⊥) →
      feed own Rest st out (b ∷ bs) ≡ after (nothing ∷ []) (feed own Rest st out bs)
  unfolding byte_of overcounts
  fed_other b bs h = passed Rest Rest b bs refl refl (rest_other b h)

  fed_start_byte : (bs : List ℕ) → feed own Rest st out (start_byte ∷ bs) ≡ after (nothing ∷ []) (feed own AtDestination st out bs)
  unfolding byte_of overcounts
  fed_start_byte bs = passed Rest AtDestination start_byte bs refl refl (rest_start start_byte refl)

  -- what stands before the data, where the telegram is ours
  module _ (bs : List ℕ) where
    fed_own : feed own AtDestination st out (own ∷ bs)
        ≡ after (nothing ∷ []) (feed own (AtSource own (ccitt_over ccitt_start (start_byte ∷ own ∷ []))) st out bs)
    unfolding byte_of overcounts
    fed_own = passed AtDestination _ own bs refl refl (destination_own own own refl)

    fed_source : (c s : ℕ) →
        feed own (AtSource own c) st out (s ∷ bs) ≡ after (nothing ∷ []) (feed own (AtLength own s (ccitt_byte c s)) st out bs)
    unfolding byte_of overcounts source_of
    fed_source c s = passed (AtSource own c) _ s bs refl refl refl

    fed_length : (s c n : ℕ) → n ≤ max_data →
        feed own (AtLength own s c) st out (n ∷ bs) ≡ after (nothing ∷ []) (feed own (AtData own s n 0 (ccitt_byte c n)) st out bs)
    unfolding byte_of overcounts
    fed_length s c n h = passed (AtLength own s c) _ n bs refl refl (length_good own s c n h)

  pub fed_opening : (s n : ℕ) (bs : List ℕ) → n ≤ max_data →
      feed own Rest st out (start_byte ∷ own ∷ s ∷ n ∷ bs)
      ≡ after (nothing ∷ nothing ∷ nothing ∷ nothing ∷ []) (feed own (AtData own s n 0 (ccitt_over ccitt_start (opening own s n))) st out bs)
  fed_opening s n bs h =
      fed_start_byte _
      ∙ before nothing
      (fed_own _
      ∙ before nothing
      (fed_source _ _ s
      ∙ before nothing
      (fed_length bs s _ n h ∙ before nothing (ap (λ (c : ℕ). feed own (AtData own s n 0 c) st out bs) (check_opening own s n)))))

  -- and where it is another's
  module _ (b : ℕ) (bs : List ℕ) where
    fed_others : (b ≡ own → ⊥) → feed own AtDestination st out (b ∷ bs) ≡ after (nothing ∷ []) (feed own OthersSource st out bs)
    unfolding byte_of overcounts
    fed_others h = passed AtDestination OthersSource b bs refl refl (destination_other own b h)

    fed_others_source : feed own OthersSource st out (b ∷ bs) ≡ after (nothing ∷ []) (feed own OthersLength st out bs)
    unfolding byte_of overcounts
    fed_others_source = passed OthersSource OthersLength b bs refl refl refl

    fed_others_length : feed own OthersLength st out (b ∷ bs) ≡ after (nothing ∷ []) (feed own (Dropping (b + 2)) st out bs)
    unfolding byte_of overcounts others_length_of
    fed_others_length = passed OthersLength (Dropping (b + 2)) b bs refl refl refl

    pub fed_dropped : (left : ℕ) → 1 < left → left ≤ 257 →
        feed own (Dropping left) st out (b ∷ bs) ≡ after (nothing ∷ []) (feed own (Dropping (left - 1)) st out bs)
    unfolding byte_of
    fed_dropped left h k = passed (Dropping left) _ b bs (dropping_within left k) refl (one_dropped left h)

    pub fed_last_dropped : (left : ℕ) → left ≤ 1 → feed own (Dropping left) st out (b ∷ bs) ≡ after (nothing ∷ []) (feed own Rest st out bs)
    unfolding byte_of
    fed_last_dropped left h = passed (Dropping left) Rest b bs (dropping_within left (omega arith)) refl (last_dropped left h)

  pub fed_others_opening : (d s n : ℕ) (bs : List ℕ) → (d ≡ own → ⊥) →
      feed own Rest st out (start_byte ∷ d ∷ s ∷ n ∷ bs)
      ≡ after (nothing ∷ nothing ∷ nothing ∷ nothing ∷ []) (feed own (Dropping (n + 2)) st out bs)
  fed_others_opening d s n bs h =
      fed_start_byte _
      ∙ before nothing (fed_others d _ h ∙ before nothing (fed_others_source s _ ∙ before nothing (fed_others_length n bs)))

  -- the data and the check
  module _ (d s n c : ℕ) (bs : List ℕ) (fits : n ≤ max_data) where
    pub fed_data : (k b : ℕ) → k < n →
        feed own (AtData d s n k c) st out (b ∷ bs)
        ≡ after (nothing ∷ []) (feed own (AtData d s n (k + 1) (ccitt_byte c b)) (set st k b) out bs)
    unfolding byte_of
    fed_data k b h =
        fed (AtData d s n k c) b bs (data_within d s n k c fits (omega arith))
        (ap (λ (o : Storing). with o.reaction o.store out) (data_stored d s n k c b st h))

    pub fed_high_check : (b : ℕ) →
        feed own (AtData d s n n c) st out (b ∷ bs) ≡ after (nothing ∷ []) (feed own (AtLowCheck d s n c b) st out bs)
    unfolding byte_of
    fed_high_check b =
        fed (AtData d s n n c) b bs (data_within d s n n c fits (omega arith))
        (ap (λ (o : Storing). with o.reaction o.store out) (data_high_check d s n n c b st (omega arith)))

    pub fed_low_check : (s ≡ reserved → ⊥) → slave_token d s n ≡ false → (r : Response) (new : List ℕ) →
        accepted_of s n st out ≡ judging (starting_again r) new →
        feed own (AtLowCheck d s n c (high_byte c)) st out (low_byte c ∷ bs) ≡ after (r ∷ []) (feed own Rest st new bs)
    unfolding byte_of
    fed_low_check f t r new e =
        fed (AtLowCheck d s n c (high_byte c)) (low_byte c) bs (low_check_within d s n c (high_byte c) fits)
        (ap (λ (o : Judging). with o.reaction st o.output)
        (right_check d s n c (high_byte c) (low_byte c) st out (word_bytes c) f t ∙ e))
