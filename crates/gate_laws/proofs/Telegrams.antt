-- Telegrams read back by the receiver, by induction on their data; and what it passes over, by induction on how it is made.
-- Assumes nothing.
use mathlib.Core.Path.{◌≡◌, refl, ap, ◌∙◌}
use mathlib.Core.List.{List, [], ◌∷◌, ◌++◌, append_assoc}
use Prim.Native.Nat.{ℕ, zero, suc, ◌+◌, ◌-◌, ◌≤◌}
use native.Mathlib.Nat.{add-zero, add-suc, suc-add, zero-add}
use native.Mathlib.Numerals.{add-one}
use native.Mathlib.Omega.{arith}
use lib.ListN.{length, set, take, length-append, length-set, replicate, replicate-append-replicate}
use lib.Seq.{sets, length-take-le}
use Rattle.base.specs.Places.{placed}
use Rattle.base.specs.Words.{high_byte}
use Rattle.base.proofs.Places.{sets_placed, take_placed, length_placed}
use Rattle.crc16.specs.Ccitt.{ccitt_start, ccitt_over}
use Rattle.crc16.proofs.CcittCheck.{ccitt_none, ccitt_cons}
use Rattle.gate_telegram.specs.Telegram.{reserved, max_data, check_of, telegram_of}
use Rattle.gate_telegram.proofs.Telegrams.{opening, closing, telegram_bytes, check_split}
use Rattle.gate_receive.specs.Receive.{Response, nothing, starting_again, judging, accepted_of}
use Rattle.gate_receive.specs.declared.GateState.TheVariants.{Rest, AtData, Dropping}
use Rattle.gate_receive.proofs.Rows.{accepted_token, accepted_data}
use Rattle.gate_laws.specs.Feeding.{Fed, after, feed}
use Rattle.gate_laws.specs.Telegrams.{acceptance, accepted, WrittenIsReceived, Passed, none, skipped, others, PassedOver, ReceivedBehind}
use Rattle.gate_laws.proofs.Feeding.{fed_none, before, fed_other, fed_opening, fed_others_opening, fed_dropped, fed_last_dropped, fed_data, fed_high_check, fed_low_check}
use Rattle.gate_laws.proofs.Written.{Sound, wrote}

-- data is taken in, one place for each byte
module _ (own d s n : ℕ) (out : List ℕ) (had : own ≡ reserved → ⊥) (fits : n ≤ max_data) where
  taken : (bs : List ℕ) (k c : ℕ) (st ts : List ℕ) → k + length bs ≤ n → length st ≡ max_data →
      feed own (AtData d s n k c) st out (bs ++ ts)
      ≡ after (replicate (length bs) nothing) (feed own (AtData d s n (k + length bs) (ccitt_over c bs)) (sets st k bs) out ts)
  taken [] k c st ts h long = rw (add-zero, ccitt_none)
  taken (b ∷ bs) k c st ts h long =
      rw (ccitt_cons c b bs, add-suc k (length bs), ← suc-add k (length bs), ← add-one k)
      (fed_data own st out long had d s n c _ fits k b (omega arith)
      ∙ before nothing (taken bs (k + 1) _ (set st k b) ts (omega arith) (simp length-set long)))

placed_none : (l : List ℕ) → placed [] l ≡ l
unfolding placed
placed_none l = refl

-- what is accepted is the data in the first places of the store
pub accepts : (s n : ℕ) (st out : List ℕ) → n ≤ length st → n ≤ length out →
    accepted_of s n st out ≡ judging (starting_again (acceptance s (take n st))) (placed (take n st) out)
accepts s zero st out h room = rw (placed_none out) (accepted_token s 0 st out refl)
accepts s (suc n) [] out h room = absurd (omega arith)
accepts s (suc n) (b ∷ st) out h room =
    accepted_data s (suc n) (b ∷ st) out (λ e. omega arith) room ∙ rw (length-take-le n st (omega arith))

-- one more of the same
one_more : (n : ℕ) (rs : List Response) → replicate n nothing ++ (nothing ∷ rs) ≡ nothing ∷ (replicate n nothing ++ rs)
one_more zero rs = refl
one_more (suc n) rs = ap (λ (l : List Response). nothing ∷ l) (one_more n rs)

module _ (d s : ℕ) (bs st out : List ℕ) (good : Sound d s (length bs)) (long : length st ≡ max_data) (room : length bs ≤ length out) where
  -- the receiver after the data
  abbrev finished : List Response → Fed
  finished rs = record { answers = rs; state = Rest; store = placed bs st; output = placed bs out }

  -- the two bytes of a check, after data that is taken in
  ended : (c : ℕ) →
      feed d (AtData d s (length bs) (length bs) c) (placed bs st) out (closing c) ≡ finished (nothing ∷ acceptance s bs ∷ [])
  ended c =
      let same : length (placed bs st) ≡ max_data = length_placed bs st (omega arith) ∙ long in
      fed_high_check d (placed bs st) out same good.destination d s (length bs) c _ good.fits (high_byte c)
      ∙ before nothing
      (fed_low_check d (placed bs st) out same good.destination d s (length bs) c [] good.fits good.source good.token
      (acceptance s bs) (placed bs out) (rw take_placed at (accepts s (length bs) (placed bs st) out (omega arith) room))
      ∙ before (acceptance s bs) (fed_none _ _ _ _))

  -- the data and its check
  data_received :
      feed d (AtData d s (length bs) 0 (ccitt_over ccitt_start (opening d s (length bs)))) st out (bs ++ closing (check_of d s bs))
      ≡ finished (replicate (length bs) nothing ++ (nothing ∷ acceptance s bs ∷ []))
  data_received =
      taken d d s (length bs) out good.destination good.fits bs 0 _ st _ (omega arith) long
      ∙ ap (after (replicate (length bs) nothing))
      (rw (zero-add (length bs), ← check_split d s bs, sets_placed bs st (omega arith)) (ended (check_of d s bs)))

  received : feed d Rest st out (telegram_of d s bs) ≡ accepted (length bs + 6) s bs st out
  received =
      let n : length bs + 6 - 1 ≡ suc (suc (suc (suc (suc (length bs))))) = omega arith in
      rw (telegram_bytes d s bs, n, ← one_more (length bs) (acceptance s bs ∷ []))
      (fed_opening d st out long good.destination s (length bs) _ good.fits
      ∙ ap (after (nothing ∷ nothing ∷ nothing ∷ nothing ∷ [])) data_received)

pub written_is_received : WrittenIsReceived
written_is_received d s n bs buf st out e long room =
    let w = wrote d s n bs buf e in
    rw (w.is, w.long) (received d s bs st out w.sound long room)

-- answers in two parts
two_parts : (m n : ℕ) (f : Fed) → after (replicate m nothing) (after (replicate n nothing) f) ≡ after (replicate (m + n) nothing) f
two_parts m n f = rw (← replicate-append-replicate m n nothing, append_assoc)

module _ (own : ℕ) (st out : List ℕ) (had : own ≡ reserved → ⊥) (long : length st ≡ max_data) where
  -- so many bytes are dropped
  dropped : (held : List ℕ) (left : ℕ) (rest : List ℕ) → length held ≡ left → 1 ≤ left → left ≤ 257 →
      feed own (Dropping left) st out (held ++ rest) ≡ after (replicate (length held) nothing) (feed own Rest st out rest)
  dropped [] left rest e h k = absurd (omega arith)
  dropped (b ∷ []) left rest e h k = fed_last_dropped own st out long had b rest left (omega arith)
  dropped (b ∷ c ∷ held) left rest e h k =
      fed_dropped own st out long had b _ left (omega arith) k
      ∙ before nothing (dropped (c ∷ held) (left - 1) rest (omega arith) (omega arith) (omega arith))

  passes : (rest : List ℕ) {front : List ℕ} → Passed own front →
      feed own Rest st out (front ++ rest) ≡ after (replicate (length front) nothing) (feed own Rest st out rest)
  passes rest none = refl
  passes rest (skipped {b} {bs} h p) = fed_other own st out long had b (bs ++ rest) h ∙ before nothing (passes rest p)
  passes rest (others {d} {s} {n} held {bs} h byte e p) =
      rw (append_assoc held bs rest, length-append held bs)
      (fed_others_opening own st out long had d s n _ h
      ∙ ap (after (nothing ∷ nothing ∷ nothing ∷ nothing ∷ []))
      (dropped held (n + 2) (bs ++ rest) e (omega arith) (omega arith)
      ∙ ap (after (replicate (length held) nothing)) (passes rest p)
      ∙ two_parts (length held) (length bs) _))

pub passed_over : PassedOver
passed_over own front rest st out had long p = passes own st out had long rest p

pub received_behind : ReceivedBehind
received_behind d s n front bs buf st out p e long room =
    passed_over d front _ st out (wrote d s n bs buf e).sound.destination long p
    ∙ ap (after (replicate (length front) nothing)) (written_is_received d s n bs buf st out e long room)
