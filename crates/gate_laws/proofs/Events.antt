-- What holds of every event, case by case of the table.
-- Assumes nothing.
use Prim.Native.Nat.{ℕ}
use mathlib.Core.Path.{◌≡◌, refl, ap, sym, ◌∙◌}
use mathlib.Core.Bool.{Bool, true, false, false≢true, not, ◌||◌}
use mathlib.Core.List.{List}
use native.Mathlib.Omega.{arith}
use lib.Dec.{eqb, leb, ltb}
use lib.ListN.{length, set, take, length-set}
use lib.Seq.{get_or-set_other}
use Rattle.base.specs.Choice.{pick}
use Rattle.base.specs.Places.{placed}
use Rattle.base.specs.Words.{word}
use Rattle.base.proofs.Choice.{pick_either}
use Rattle.gate_telegram.specs.Telegram.{start_byte, reserved, max_data, slave_token}
use Rattle.gate_receive.specs.Receive.{Response, nothing, telegram, token, refuses, Reaction, Outcome, Storing, Judging, to, starting_again, with, rest_of, destination_of, source_of, length_of, data_of, accepted_of, judged_of, others_length_of, dropping_of, byte_of, event_of, overcounts, receive_of}
use Rattle.events.specs.declared.Event.{Event}
use Rattle.events.specs.declared.Event.TheVariants.{Byte, Timer}
use Rattle.gate_receive.specs.declared.GateState.{GateState}
use Rattle.gate_receive.specs.declared.GateState.TheVariants.{Rest, AtDestination, AtSource, AtLength, AtData, AtLowCheck, OthersSource, OthersLength, Dropping}
use Rattle.gate_laws.specs.Events.{RefusedLeaves, RefusedStartsAgain, output_after, OnlyAcceptedIsPut, StoreKept, StoresAtCount}

abbrev is_refusal : Response → Bool
is_refusal nothing = false
is_refusal (telegram s n) = false
is_refusal (token s) = false
is_refusal (refuses k) = true

no_refusal : (r : Response) (k : ℕ) → is_refusal r ≡ false → r ≡ refuses k → ⊥
no_refusal r k e h = false≢true (sym e ∙ ap is_refusal h)

same_number : (j k : ℕ) → refuses j ≡ refuses k → j ≡ k
same_number j k e = cc

module _ (s : GateState) (st out : List ℕ) where
  -- the three laws, of an outcome at state s
  record Lawful (o : Outcome) : Type 0 where
    refused : (k : ℕ) → o.reaction.response ≡ refuses k → RefusedLeaves s st out o k
    put : o.output ≡ output_after o.reaction.response st out
    stores : StoreKept s st o.store

  abbrev Kept : Reaction → Type 0
  Kept r = Lawful (with r st out)

  abbrev Judged : Judging → Type 0
  Judged o = Lawful (with o.reaction st o.output)

  same : StoreKept s st st
  same = record { long = refl; kept = λ i h. refl }

  -- what is no refusal
  answered : (r : Response) (next : GateState) (new end : List ℕ) → is_refusal r ≡ false → end ≡ output_after r st out →
      StoreKept s st new → Lawful (with (to r next) new end)
  answered r next new end e p kept = record { refused = λ k h. absurd (no_refusal r k e h); put = p; stores = kept }

  goes_on : (next : GateState) → Kept (to nothing next)
  goes_on next = answered nothing next st out refl refl same

  goes_either : (t : Bool) (a b : GateState) → Kept (pick t (to nothing a) (to nothing b))
  goes_either t a b = pick_either Kept t (goes_on a) (goes_on b)

  starts_again : (j : ℕ) → (j ≡ 1 → ⊥) → Kept (starting_again (refuses j))
  starts_again j other = record {
    refused = λ k e. record {
      kept = λ h. absurd (other (same_number j k e ∙ h));
      again = λ h. ap (λ (n : ℕ). with (starting_again (refuses n)) st out) (same_number j k e);
    };
    put = refl;
    stores = same;
  }

  keeps_all : Kept (to (refuses 1) s)
  keeps_all = record {
    refused = λ k e. record { kept = λ h. refl; again = λ h. absurd (h (sym (same_number 1 k e))) };
    put = refl;
    stores = same;
  }

  judged_lawful : (d src n c h b : ℕ) → Judged (judged_of d src n c h b st out)
  unfolding judged_of accepted_of
  judged_lawful d src n c h b =
      pick_either Judged (not (eqb (word h b) c))
      (starts_again 15 (λ e. omega arith))
      (pick_either Judged (eqb src reserved || slave_token d src n)
      (starts_again 16 (λ e. omega arith))
      (pick_either Judged (eqb n 0)
      (answered (token src) Rest st out refl refl same)
      (pick_either Judged (ltb (length out) n)
      (starts_again 11 (λ e. omega arith))
      (answered (telegram src n) Rest st (placed (take n st) out) refl refl same))))

module _ (st out : List ℕ) where
  one_store : (d s n k c b : ℕ) → StoreKept (AtData d s n k c) st (set st k b)
  one_store d s n k c b = record { long = length-set st k b; kept = λ i h. get_or-set_other st k i b 0 h }

  data_lawful : (d s n k c b : ℕ) →
      let o = data_of d s n k c b st in
      Lawful (AtData d s n k c) st out (with o.reaction o.store out)
  unfolding data_of
  data_lawful d s n k c b =
      let at = AtData d s n k c in
      pick_either (λ (o : Storing). Lawful at st out (with o.reaction o.store out)) (ltb k n)
      (answered at st out nothing _ (set st k b) out refl refl (one_store d s n k c b))
      (goes_on at st out _)

  byte_lawful : (own : ℕ) (s : GateState) (b : ℕ) → Lawful s st out (byte_of own s b st out)
  unfolding byte_of rest_of destination_of source_of length_of others_length_of dropping_of
  byte_lawful own Rest b = goes_either Rest st out (eqb b start_byte) _ _
  byte_lawful own AtDestination b = goes_either AtDestination st out (eqb b own) _ _
  byte_lawful own (AtSource d c) b = goes_on (AtSource d c) st out _
  byte_lawful own (AtLength d s c) b =
      let at = AtLength d s c in
      pick_either (Kept at st out) (ltb max_data b) (starts_again at st out 7 (λ e. omega arith)) (goes_on at st out _)
  byte_lawful own (AtData d s n k c) b = data_lawful d s n k c b
  byte_lawful own (AtLowCheck d s n c h) b = judged_lawful (AtLowCheck d s n c h) st out d s n c h b
  byte_lawful own OthersSource b = goes_on OthersSource st out _
  byte_lawful own OthersLength b = goes_on OthersLength st out _
  byte_lawful own (Dropping left) b = goes_either (Dropping left) st out (leb left 1) _ _

  event_lawful : (own : ℕ) (s : GateState) (e : Event) → Lawful s st out (event_of own s st e out)
  unfolding event_of
  event_lawful own s (Byte b) = byte_lawful own s b
  event_lawful own s Timer = goes_on s st out Rest

  lawful : (own : ℕ) (s : GateState) (e : Event) → Lawful s st out (receive_of own s st e out)
  unfolding receive_of
  lawful own s e =
      pick_either (Lawful s st out) (not (eqb (length st) max_data) || overcounts s)
      (keeps_all s st out)
      (pick_either (Lawful s st out) (eqb own reserved) (starts_again s st out 16 (λ f. omega arith)) (event_lawful own s e))

pub refused_starts_again : RefusedStartsAgain
refused_starts_again own s st e out = (lawful st out own s e).refused

pub only_accepted_is_put : OnlyAcceptedIsPut
only_accepted_is_put own s st e out = (lawful st out own s e).put

pub stores_at_count : StoresAtCount
stores_at_count own s st e out = (lawful st out own s e).stores
