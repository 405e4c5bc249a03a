-- What a receiver accepts is what a writer writes, by what has come of a telegram at each state.
-- Assumes nothing.
use Prim.Native.Nat.{ℕ, zero, suc, ◌+◌, ◌-◌, ◌≤◌, ◌<◌}
use mathlib.Core.Path.{◌≡◌, refl, ap, sym, subst, ◌∙◌}
use mathlib.Core.Bool.{Bool, true, false, not, ◌||◌}
use mathlib.Core.List.{List, [], ◌∷◌, ◌++◌, append_assoc}
use native.Mathlib.Numerals.{add-one}
use native.Mathlib.Omega.{arith}
use borrow.Author.Tests.{eqb-true, eqb-false, leb-true, leb-false, ltb-true, ltb-false, not-false}
use lib.Dec.{eqb, leb, ltb}
use lib.ListN.{length, set, take, length-set, length-append, replicate}
use lib.Seq.{append_snoc, take-suc-set, length-take-le}
use Rattle.base.specs.Places.{placed}
use Rattle.base.specs.Words.{word}
use Rattle.base.proofs.Choice.{pick_by}
use Rattle.base.proofs.Words.{high_word, low_word}
use Rattle.base.proofs.Tests.{neither}
use Rattle.crc16.specs.Check.{run_over}
use Rattle.crc16.specs.Ccitt.{ccitt_start, ccitt_byte, ccitt_over}
use Rattle.crc16.proofs.CcittCheck.{ccitt_append}
use Rattle.gate_telegram.specs.Telegram.{start_byte, reserved, max_data, slave_token, checked, check_of, telegram_of}
use Rattle.gate_telegram.proofs.Addresses.{addresses_token}
use Rattle.gate_telegram.proofs.Telegrams.{opening, telegram_bytes}
use Rattle.gate_receive.specs.Receive.{Response, nothing, refuses, Reaction, Outcome, Storing, Judging, to, starting_again, with, storing, judging, rest_of, destination_of, source_of, length_of, data_of, accepted_of, judged_of, others_length_of, dropping_of, byte_of, overcounts}
use Rattle.gate_receive.specs.declared.GateState.{GateState}
use Rattle.gate_receive.specs.declared.GateState.TheVariants.{Rest, AtDestination, AtSource, AtLength, AtData, AtLowCheck, OthersSource, OthersLength, Dropping}
use Rattle.gate_receive.proofs.Bounds.{receive_byte, data_within, low_check_within, dropping_within}
use Rattle.gate_receive.proofs.Rows.{accepted_short}
use Rattle.gate_laws.specs.Bytes.{Bytes, none, more}
use Rattle.gate_laws.specs.Feeding.{Fed, after, feed}
use Rattle.gate_laws.specs.Telegrams.{acceptance, Passed, none, skipped, others, AcceptedAs, Accepts, AcceptedIsWritten}
use Rattle.gate_laws.proofs.Telegrams.{accepts}

-- an answer that is the last, with nothing before it
record Last (r : Response) (rs : List Response) : Type 0 where
  before : ℕ
  is : rs ≡ replicate before nothing ++ (r ∷ [])

module _ (r : Response) where
  last_none : (m : ℕ) → [] ≡ replicate m nothing ++ (r ∷ []) → ⊥
  last_none zero e = let z : ◌≡◌ {A = ℕ} 0 1 = cc in omega arith
  last_none (suc m) e = let z : ◌≡◌ {A = ℕ} 0 1 = cc in omega arith

  -- nothing is said first: it is among the others
  last_later : Accepts r → (m : ℕ) (rs : List Response) → nothing ∷ rs ≡ replicate m nothing ++ (r ∷ []) → Last r rs
  last_later good zero rs e = let same : r ≡ nothing = cc in absurd (subst Accepts same good)
  last_later good (suc m) rs e = record { before = m; is = cc }

  -- something is said first: that is it, and there are no others
  last_here : (m : ℕ) (x : Response) (rs : List Response) → (x ≡ nothing → ⊥) → x ∷ rs ≡ replicate m nothing ++ (r ∷ []) →
      (r ≡ x) × (rs ≡ [])
  last_here zero x rs n e = (cc, cc)
  last_here (suc m) x rs n e = absurd (n (cc))

-- where there is no answer, nothing was fed
fed_unanswered : (own : ℕ) (s : GateState) (st out bs : List ℕ) → (feed own s st out bs).answers ≡ [] →
    (bs ≡ []) × ((feed own s st out bs).output ≡ out)
unfolding feed
fed_unanswered own s st out [] e = (refl, refl)
fed_unanswered own s st out (b ∷ bs) e = absurd (let z : ◌≡◌ {A = ℕ} 0 1 = cc in omega arith)

refused_nothing : (k : ℕ) → refuses k ≡ nothing → ⊥
refused_nothing k e = let z : ◌≡◌ {A = ℕ} 0 1 = cc in omega arith

accepted_nothing : (s : ℕ) (held : List ℕ) → acceptance s held ≡ nothing → ⊥
accepted_nothing s [] e = let z : ◌≡◌ {A = ℕ} 0 1 = cc in omega arith
accepted_nothing s (b ∷ held) e = let z : ◌≡◌ {A = ℕ} 0 1 = cc in omega arith

-- data and its check as they came are what is written, where the check is right
telegram_came : (d s n h b : ℕ) (held : List ℕ) → length held ≡ n → b < 256 → word h b ≡ ccitt_over ccitt_start (opening d s n ++ held) →
    opening d s n ++ (held ++ (h ∷ [])) ++ (b ∷ []) ≡ telegram_of d s held
unfolding check_of checked
telegram_came d s n h b held long byte e =
    let check : check_of d s held ≡ word h b = rw long (sym e) in
    rw (telegram_bytes d s held, check, high_word h b byte, low_word h b byte, long, append_snoc held h (b ∷ []))

module _ (own : ℕ) where
  -- ours: what is stored of the data, and the check over all that has come
  record Stored (s n k c : ℕ) (st : List ℕ) : Type 0 where
    fits : n ≤ max_data
    within : k ≤ n
    check : c ≡ ccitt_over ccitt_start (opening own s n ++ take k st)

  -- what has come of a telegram, by the state and the store
  data Came : GateState → List ℕ → List ℕ → Type 0 where
    at_rest : {st : List ℕ} → Came Rest st []
    at_destination : {st : List ℕ} → Came AtDestination st (start_byte ∷ [])
    at_source : {st : List ℕ} → Came (AtSource own (ccitt_over ccitt_start (start_byte ∷ own ∷ []))) st (start_byte ∷ own ∷ [])
    at_length : {s : ℕ} {st : List ℕ} →
        Came (AtLength own s (ccitt_over ccitt_start (start_byte ∷ own ∷ s ∷ []))) st (start_byte ∷ own ∷ s ∷ [])
    at_data : {s n k c : ℕ} {st : List ℕ} → Stored s n k c st → Came (AtData own s n k c) st (opening own s n ++ take k st)
    at_low_check : {s n c h : ℕ} {st : List ℕ} → Stored s n n c st →
        Came (AtLowCheck own s n c h) st (opening own s n ++ (take n st ++ (h ∷ [])))
    others_source : {d : ℕ} {st : List ℕ} → (d ≡ own → ⊥) → Came OthersSource st (start_byte ∷ d ∷ [])
    others_length : {d s : ℕ} {st : List ℕ} → (d ≡ own → ⊥) → Came OthersLength st (start_byte ∷ d ∷ s ∷ [])
    dropping : {d s n left : ℕ} {st : List ℕ} (held : List ℕ) → (d ≡ own → ⊥) → n ≤ 255 → 1 ≤ left → length held + left ≡ n + 2 →
        Came (Dropping left) st (opening d s n ++ held)

  came_within : {s : GateState} {st came : List ℕ} → Came s st came → overcounts s ≡ false
  unfolding overcounts
  came_within at_rest = refl
  came_within at_destination = refl
  came_within at_source = refl
  came_within at_length = refl
  came_within (at_data {s} {n} {k} {c} t) = data_within own s n k c t.fits t.within
  came_within (at_low_check {s} {n} {c} {h} t) = low_check_within own s n c h t.fits
  came_within (others_source other) = refl
  came_within (others_length other) = refl
  came_within (dropping {left = left} held other small some count) = dropping_within left (omega arith)

  -- behind more that is passed over
  behind : (first : List ℕ) {bs out new : List ℕ} {r : Response} → ((front : List ℕ) → Passed own front → Passed own (first ++ front)) →
      AcceptedAs own bs out r new → AcceptedAs own (first ++ bs) out r new
  behind first passes a = record {
    front = first ++ a.front;
    source = a.source;
    held = a.held;
    passed = passes a.front a.passed;
    bytes = ap (λ (l : List ℕ). first ++ l) a.bytes ∙ sym (append_assoc first a.front _);
    addresses = a.addresses;
    long = a.long;
    answer = a.answer;
    put = a.put;
  }

module _ (own : ℕ) (out : List ℕ) (r : Response) (had : own ≡ reserved → ⊥) (good : Accepts r) where
  -- what is to be shown of bytes, by what feeding the last of them gives
  abbrev Claim : List ℕ → Fed → Type 0
  Claim bs f = Last r f.answers → AcceptedAs own bs out r f.output

  refused : (k : ℕ) {bs new : List ℕ} {rs : List Response} → Last r (refuses k ∷ rs) → AcceptedAs own bs out r new
  refused k l =
      let here = last_here r l.before (refuses k) _ (refused_nothing k) l.is in
      absurd (subst Accepts here.0 good)

  -- a byte, where that holds of those behind it
  module _ (b : ℕ) (bs : List ℕ) (byte : b < 256)
      (next : (s : GateState) (st came : List ℕ) → Came own s st came → length st ≡ max_data → Claim (came ++ bs) (feed own s st out bs)) where
    goes_on : {s : GateState} {st came : List ℕ} → Came own s st came → length st ≡ max_data →
        Claim (came ++ bs) (after (nothing ∷ []) (feed own s st out bs))
    goes_on {s} {st} {came} c long l = next s st came c long (last_later r good l.before _ l.is)

    -- and here of the byte too, by what came before it and what it gives
    abbrev Then : List ℕ → Outcome → Type 0
    Then came o = Claim (came ++ (b ∷ bs)) (after (o.reaction.response ∷ []) (feed own o.reaction.next o.store o.output bs))

    abbrev Reacts : List ℕ → List ℕ → Reaction → Type 0
    Reacts came st o = Then came (with o st out)

    -- at the data
    module _ (s n k c : ℕ) (st : List ℕ) (t : Stored own s n k c st) (long : length st ≡ max_data) where
      abbrev Stores : Storing → Type 0
      Stores o = Then (opening own s n ++ take k st) (with o.reaction o.store out)

      module _ (less : k < n) where
        one_taken : take (k + 1) (set st k b) ≡ take k st ++ (b ∷ [])
        one_taken = rw add-one (take-suc-set st k b (omega arith))

        one_stored : Stored own s n (k + 1) (ccitt_byte c b) (set st k b)
        unfolding ccitt_over run_over
        one_stored = record {
          fits = t.fits;
          within = omega arith;
          check = rw (one_taken, t.check) (sym (ccitt_append ccitt_start (opening own s n ++ take k st) (b ∷ [])));
        }

        stores_byte : Stores (storing (to nothing (AtData own s n (k + 1) (ccitt_byte c b))) (set st k b))
        stores_byte = rw (← append_snoc (take k st) b bs, ← one_taken) (goes_on (at_data one_stored) (length-set st k b ∙ long))

      stores_all : k ≡ n → Stores (storing (to nothing (AtLowCheck own s n c b)) st)
      stores_all all = rw (← append_snoc (take k st) b bs, all) (goes_on (at_low_check (rw all at t)) long)

      data_claim : Stores (data_of own s n k c b st)
      unfolding data_of
      data_claim =
          pick_by Stores (ltb k n) (λ e. stores_byte (ltb-true k n e)) (λ e. stores_all (omega (arith, ltb-false k n e)))

    -- at the low byte of the check
    module _ (s n c h : ℕ) (st : List ℕ) (t : Stored own s n n c st) (long : length st ≡ max_data) where
      abbrev Judges : Judging → Type 0
      Judges o = Then (opening own s n ++ (take n st ++ (h ∷ []))) (with o.reaction st o.output)

      module _ (right : word h b ≡ c) (sound : (eqb s reserved || slave_token own s n) ≡ false) where
        accepted : Judges (judging (starting_again (acceptance s (take n st))) (placed (take n st) out))
        accepted l =
            let here = last_here r l.before _ _ (accepted_nothing s (take n st)) l.is in
            let end = fed_unanswered own Rest st (placed (take n st) out) bs here.1 in
            let size : length (take n st) ≡ n = length-take-le n st (omega arith) in
            let both = neither (eqb s reserved) (slave_token own s n) sound in
            record {
              front = [];
              source = s;
              held = take n st;
              passed = none;
              bytes = rw end.0 (telegram_came own s n h b (take n st) size byte (right ∙ t.check));
              addresses = rw size (addresses_token own s n had (eqb-false s reserved both.0) ∙ both.1);
              long = rw size t.fits;
              answer = here.0;
              put = end.1;
            }

        accepted_claim : (short : Bool) → ltb (length out) n ≡ short → Judges (accepted_of s n st out)
        accepted_claim true e =
            let less = ltb-true (length out) n e in
            rw (accepted_short s n st out (λ z. omega arith) less) (refused 11)
        accepted_claim false e = rw (accepts s n st out (omega arith) (ltb-false (length out) n e)) accepted

      judged_claim : Judges (judged_of own s n c h b st out)
      unfolding judged_of
      judged_claim =
          pick_by Judges (not (eqb (word h b) c))
          (λ wrong. refused 15)
          (λ right.
          pick_by Judges (eqb s reserved || slave_token own s n)
          (λ bad. refused 16)
          (λ sound. accepted_claim (eqb-true (word h b) c (not-false _ right)) sound (ltb (length out) n) refl))

    -- in a telegram for another
    module _ (d s n left : ℕ) (held st : List ℕ) (other : d ≡ own → ⊥) (small : n ≤ 255) (count : length held + left ≡ n + 2)
        (long : length st ≡ max_data) where
      drops_last : left ≡ 1 → Reacts (opening d s n ++ held) st (to nothing Rest)
      drops_last one l =
          rw (← append_snoc held b bs)
          (behind own (opening d s n ++ (held ++ (b ∷ [])))
          (λ front. others (held ++ (b ∷ [])) other small (simp length-append (omega arith)))
          (goes_on at_rest long l))

      drops_byte : 1 < left → Reacts (opening d s n ++ held) st (to nothing (Dropping (left - 1)))
      drops_byte some =
          rw (← append_snoc held b bs)
          (goes_on (dropping (held ++ (b ∷ [])) other small (omega arith) (simp length-append (omega arith))) long)

    byte_claim : {s : GateState} {st came : List ℕ} → Came own s st came → length st ≡ max_data → Then came (byte_of own s b st out)
    unfolding byte_of rest_of destination_of source_of length_of others_length_of dropping_of ccitt_over run_over
    byte_claim (at_rest {st}) long =
        pick_by (Reacts [] st) (eqb b start_byte)
        (λ e. rw (eqb-true b start_byte e) (goes_on at_destination long))
        (λ e l. behind own (b ∷ []) (λ front. skipped (eqb-false b start_byte e)) (goes_on at_rest long l))
    byte_claim (at_destination {st}) long =
        pick_by (Reacts (start_byte ∷ []) st) (eqb b own)
        (λ e. rw (eqb-true b own e) (goes_on at_source long))
        (λ e. goes_on (others_source (eqb-false b own e)) long)
    byte_claim at_source long = goes_on at_length long
    byte_claim (at_length {s} {st}) long =
        pick_by (Reacts (start_byte ∷ own ∷ s ∷ []) st) (ltb max_data b)
        (λ over. refused 7)
        (λ e. goes_on (at_data (record { fits = ltb-false max_data b e; within = omega arith; check = refl })) long)
    byte_claim (at_data {s} {n} {k} {c} {st} t) long = data_claim s n k c st t long
    byte_claim (at_low_check {s} {n} {c} {h} {st} t) long = judged_claim s n c h st t long
    byte_claim (others_source other) long = goes_on (others_length other) long
    byte_claim (others_length other) long = goes_on (dropping [] other (omega arith) (omega arith) (omega arith)) long
    byte_claim (dropping {d} {s} {n} {left} {st} held other small some count) long =
        pick_by (Reacts (opening d s n ++ held) st) (leb left 1)
        (λ e. drops_last d s n left held st other small count long (omega (arith, leb-true left 1 e)))
        (λ e. drops_byte d s n left held st other small count long (leb-false left 1 e))

  claim : (bs : List ℕ) (s : GateState) (st came : List ℕ) → Came own s st came → length st ≡ max_data → Bytes bs →
      Claim (came ++ bs) (feed own s st out bs)
  unfolding feed
  claim [] s st came c long none = λ l. absurd (last_none r l.before l.is)
  claim (b ∷ bs) s st came c long (more byte bytes) =
      rw (receive_byte own s st out b long (came_within own c) had)
      (byte_claim b bs byte (λ s st came c long. claim bs s st came c long bytes) c long)

pub accepted_is_written : AcceptedIsWritten
accepted_is_written own m bs st out r had long bytes good e =
    claim own out r had good bs Rest st [] at_rest long bytes (record { before = m; is = e })
