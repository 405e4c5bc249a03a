-- Reading and writing a header together: what is written reads back, and what reads well is what its header writes.
-- Assumes nothing.
use mathlib.Core.Path.{◌≡◌, refl, ◌∙◌, ap, subst}
use mathlib.Core.Bool.{Bool, true, false, not, ◌&&◌, and-eq-true_iff}
use mathlib.Core.List.{List, [], ◌∷◌, ◌++◌}
use Prim.Native.Nat.{ℕ, ◌+◌, ◌≤◌}
use native.Mathlib.Omega.{arith}
use borrow.Author.Tests.{ltb-false, leb-true, eqb-true, eq-eqb, not-false}
use lib.Dec.{ltb, leb}
use lib.ListN.{length, get_or, take, drop, length-append, length-drop, take-append-drop}
use lib.Seq.{drop-cons, drop-append_seam, take_at, length-take-le}
use Rattle.base.specs.Choice.{pick}
use Rattle.mop_block.specs.Block.{good_block, first}
use Rattle.mop_block.proofs.Counts.{not_twice}
use Rattle.mop_header.specs.Header.{Head, head, function_byte, address_bytes, header_bytes, header_length, telegram_of, body_of, is_mark, mark_byte, mark_is, mark_agrees}
use Rattle.mop_reader.specs.Reading.{Reading, sound, faulty, allowed, function_at, good_for, judged, standard_reading, count_at, extended_reading, max_telegram, reading}
use Rattle.mop_reader.specs.ReadBack.{sized, InOrder, ReadsBack, ReadWell, IsWritten, NoMark}
use Rattle.mop_header.specs.declared.Function.{Function}
use Rattle.mop_header.specs.declared.Form.{Form}
use Rattle.mop_header.specs.declared.Form.TheVariants.{Standard, Extended}
use Rattle.mop_reader.specs.declared.Reader.{Reader}
use Rattle.mop_reader.proofs.Marks.{mark_entries, own_mark}
use Rattle.mop_reader.proofs.Readers.{function_at_lem, byte_at, taken_good}
use Rattle.mop_reader.proofs.Steps.{judged_sound, as_extended, as_standard, behind_mark}
use Rattle.mop_header.proofs.Writing.{length_telegram}

-- the entries of a mark are a station twice
no_mark_by : (f : Function) (a b c d : ℕ) (t : Bool) → is_mark f a b c d ≡ t → good_block (a ∷ b ∷ c ∷ d ∷ []) ≡ true → t ≡ false
no_mark_by f a b c d false e g = refl
no_mark_by f a b c d true e g = let p = mark_entries f a b c d e in absurd (not_twice a b c d 0xEE g p.1 p.2)

pub no_mark : NoMark
no_mark f a b c d g = no_mark_by f a b c d (is_mark f a b c d) refl g

-- the body stands behind the header
pub body_behind : (h : Head) (body : List ℕ) → body_of h (telegram_of h body) ≡ body
unfolding body_of telegram_of header_length
body_behind h body = drop-append_seam (header_bytes h) body

-- reading what was written
module _ (who : Reader) (f : Function) (c : ℕ) (body : List ℕ) where
  standard_back : (b : List ℕ) → length b ≡ 4 → InOrder who (head f c Standard b) → length (telegram_of (head f c Standard b) body) ≤ max_telegram →
      reading who (telegram_of (head f c Standard b) body) ≡ sound (head f c Standard b)
  unfolding telegram_of header_bytes address_bytes standard_reading
  standard_back [] four o l = absurd (omega arith)
  standard_back (w ∷ []) four o l = absurd (omega arith)
  standard_back (w ∷ x ∷ []) four o l = absurd (omega arith)
  standard_back (w ∷ x ∷ y ∷ []) four o l = absurd (omega arith)
  standard_back (w ∷ x ∷ y ∷ z ∷ a ∷ b) four o l = absurd (omega arith)
  standard_back (w ∷ x ∷ y ∷ z ∷ []) four o l =
      let tg : List ℕ = function_byte f ∷ c ∷ w ∷ x ∷ y ∷ z ∷ body in
      as_standard who tg l (omega arith) o.function (no_mark (function_at tg) w x y z (taken_good who (w ∷ x ∷ y ∷ z ∷ []) o.block))
      ∙ rw function_at_lem (judged_sound who (head f c Standard (w ∷ x ∷ y ∷ z ∷ [])) o.block o.mark)

  extended_back : (m : ℕ) (b : List ℕ) → InOrder who (head f c (Extended m) b) → length (telegram_of (head f c (Extended m) b) body) ≤ max_telegram →
      reading who (telegram_of (head f c (Extended m) b) body) ≡ sound (head f c (Extended m) b)
  unfolding sized telegram_of header_bytes address_bytes mark_agrees mark_is
  extended_back m b o l =
      let tg : List ℕ = function_byte f ∷ c ∷ m ∷ 0xEF ∷ 0xEF ∷ 0xEF ∷ length b ∷ (b ++ body) in
      let long : length (b ++ body) ≡ length b + length body = length-append b body in
      let p = (and-eq-true_iff (leb 2 (length b)) (leb (length b) 32)).0 o.size in
      let mark : is_mark f m 0xEF 0xEF 0xEF ≡ true = rw (eqb-true m (mark_byte f (first b)) o.mark) (own_mark f (first b)) in
      as_extended who tg l (omega arith) o.function (rw function_at_lem mark)
      ∙ behind_mark who tg (omega arith) (leb-true 2 (length b) p.0) (leb-true (length b) 32 p.1) (omega arith)
      ∙ rw (function_at_lem, take_at b body (length b) refl) (judged_sound who (head f c (Extended m) b) o.block o.mark)

  back : (m : Form) (b : List ℕ) → InOrder who (head f c m b) → length (telegram_of (head f c m b) body) ≤ max_telegram →
      reading who (telegram_of (head f c m b) body) ≡ sound (head f c m b)
  unfolding sized
  back Standard b o l = standard_back b (eqb-true (length b) 4 o.size) o l
  back (Extended m) b o l = extended_back m b o l

pub reads_back : ReadsBack
reads_back who h body o l = (back who h.function h.control body h.form h.block o l, body_behind h body)

-- a test that was passed
passed : (t : Bool) (k : ℕ) (x : Reading) (h : Head) → pick t (faulty k) x ≡ sound h → (t ≡ false) × (x ≡ sound h)
passed true k x h e = let z : ◌≡◌ {A = ℕ} 0 1 = cc in absurd (omega arith)
passed false k x h e = (refl, e)

same_head : (h₀ h : Head) → sound h₀ ≡ sound h → h₀ ≡ h
same_head h₀ h e = cc

judged_order : (who : Reader) (h₀ h : Head) → judged who h₀ ≡ sound h → (good_for who h₀.block ≡ true) × (mark_agrees h₀ ≡ true) × (h₀ ≡ h)
unfolding judged
judged_order who h₀ h e =
    let p = passed (not (good_for who h₀.block)) 5 (pick (not (mark_agrees h₀)) (faulty 6) (sound h₀)) h e in
    let q = passed (not (mark_agrees h₀)) 6 (sound h₀) h p.1 in
    (not-false (good_for who h₀.block) p.0, not-false (mark_agrees h₀) q.0, same_head h₀ h q.1)

-- a telegram that is a header and something is that header and its body
whole_by : (h : Head) {tg : List ℕ} (rest : List ℕ) → telegram_of h rest ≡ tg → telegram_of h (body_of h tg) ≡ tg
whole_by h rest e = rw (← e, body_behind h rest)

-- the first entries and what is behind them
module _ (tg : List ℕ) where
  behind_two : 2 ≤ length tg → get_or tg 0 0 ∷ get_or tg 1 0 ∷ drop 2 tg ≡ tg
  behind_two l = rw (← drop-cons tg 1 0 (omega arith), ← drop-cons tg 0 0 (omega arith))

  behind_seven : 7 ≤ length tg → get_or tg 0 0 ∷ get_or tg 1 0 ∷ get_or tg 2 0 ∷ get_or tg 3 0 ∷ get_or tg 4 0 ∷ get_or tg 5 0 ∷ count_at tg ∷ drop 7 tg ≡ tg
  behind_seven l =
      rw (← drop-cons tg 6 0 l, ← drop-cons tg 5 0 (omega arith), ← drop-cons tg 4 0 (omega arith), ← drop-cons tg 3 0 (omega arith), ← drop-cons tg 2 0 (omega arith))
      (behind_two (omega arith))

module _ (who : Reader) (tg : List ℕ) (h : Head) (small : length tg ≤ max_telegram) (six : 6 ≤ length tg) (function : allowed who (get_or tg 0 0) ≡ true) where
  standard_written : standard_reading who tg ≡ sound h → ReadWell who tg h
  unfolding standard_reading sized telegram_of header_bytes address_bytes
  standard_written e =
      let b : List ℕ = take 4 (drop 2 tg) in
      let h₀ : Head = head (function_at tg) (get_or tg 1 0) Standard b in
      let i = judged_order who h₀ h e in
      let four : length b ≡ 4 = length-take-le 4 (drop 2 tg) (omega (arith, length-drop 2 tg)) in
      subst (λ (g : Head). ReadWell who tg g) i.2 (record {
        order = record { function = rw (byte_at who tg function) function; size = eq-eqb (length b) 4 four; block = i.0; mark = i.1 };
        whole = whole_by h₀ (drop 4 (drop 2 tg)) (rw (byte_at who tg function, take-append-drop 4 (drop 2 tg)) (behind_two tg (omega arith)));
        short = small;
      })

  extended_written : is_mark (function_at tg) (get_or tg 2 0) (get_or tg 3 0) (get_or tg 4 0) (get_or tg 5 0) ≡ true → extended_reading who tg ≡ sound h → ReadWell who tg h
  unfolding extended_reading sized telegram_of header_bytes address_bytes
  extended_written m e =
      let n : ℕ = count_at tg in
      let b : List ℕ = take n (drop 7 tg) in
      let h₀ : Head = head (function_at tg) (get_or tg 1 0) (Extended (get_or tg 2 0)) b in
      let p = passed (ltb (length tg) 7) 2 _ h e in
      let q = passed (not (leb 2 n && leb n 32)) 4 _ h p.1 in
      let r = passed (ltb (length tg) (7 + n)) 2 _ h q.1 in
      let i = judged_order who h₀ h r.1 in
      let efs = mark_entries (function_at tg) (get_or tg 2 0) (get_or tg 3 0) (get_or tg 4 0) (get_or tg 5 0) m in
      let room : 7 + n ≤ length tg = ltb-false (length tg) (7 + n) r.0 in
      let long : length b ≡ n = length-take-le n (drop 7 tg) (omega (arith, length-drop 7 tg)) in
      let bytes = rw (efs.0, efs.1, efs.2) at (behind_seven tg (omega arith)) in
      subst (λ (g : Head). ReadWell who tg g) i.2 (record {
        order = record { function = rw (byte_at who tg function) function; size = rw long (not-false (leb 2 n && leb n 32) q.0); block = i.0; mark = i.1 };
        whole = whole_by h₀ (drop n (drop 7 tg)) (rw (byte_at who tg function, long, take-append-drop n (drop 7 tg)) bytes);
        short = small;
      })

  by_form : (t : Bool) → is_mark (function_at tg) (get_or tg 2 0) (get_or tg 3 0) (get_or tg 4 0) (get_or tg 5 0) ≡ t →
      pick t (extended_reading who tg) (standard_reading who tg) ≡ sound h → ReadWell who tg h
  by_form true m e = extended_written m e
  by_form false m e = standard_written e

pub is_written : IsWritten
unfolding reading
is_written who tg h e =
    let p = passed (ltb max_telegram (length tg)) 12 _ h e in
    let q = passed (ltb (length tg) 6) 2 _ h p.1 in
    let r = passed (not (allowed who (get_or tg 0 0))) 3 _ h q.1 in
    by_form who tg h (ltb-false max_telegram (length tg) p.0) (ltb-false (length tg) 6 q.0) (not-false (allowed who (get_or tg 0 0)) r.0)
    (is_mark (function_at tg) (get_or tg 2 0) (get_or tg 3 0) (get_or tg 4 0) (get_or tg 5 0)) refl r.1

-- the header stands in the telegram
pub sound_room : (who : Reader) (tg : List ℕ) (h : Head) → reading who tg ≡ sound h → header_length h ≤ length tg
sound_room who tg h e = omega (arith, length_telegram h (body_of h tg), ap length (is_written who tg h e).whole)
