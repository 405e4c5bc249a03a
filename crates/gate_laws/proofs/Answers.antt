-- Answers of a barrier, written and read back, case by case of their kinds.
-- Assumes nothing.
use Prim.Native.Nat.{ℕ, zero, suc}
use mathlib.Core.Path.{◌≡◌, refl, ap, sym, subst, ◌∙◌}
use mathlib.Core.Bool.{true, false≢true}
use mathlib.Core.List.{List, [], ◌∷◌}
use native.Mathlib.Omega.{arith}
use borrow.Author.Tests.{eqb-true, ne_eqb, leb-true}
use lib.Dec.{eqb}
use lib.IntN.{ℤ, pos, negsuc}
use lib.ListN.{length, get_or}
use Rattle.base.proofs.Choice.{pick_by}
use Rattle.base.specs.Filling.{fitted}
use Rattle.signed.specs.Signed.{top8, top32, bits_of, signed_of, four_bytes, of_four}
use Rattle.signed.specs.Inverse.{FitsTop}
use Rattle.signed.proofs.Inverse.{signed_bits, bits_signed, bits_bound, four_back, bytes_back}
use Rattle.gate_answers.specs.Answers.{ack, nak, busy, syn, count, position, is_position, answer_bytes, is_answer, answer_writing, Reading, reads, refuses, sized, position_at, kind_reading, answer_reading}
use Rattle.gate_answers.specs.declared.BarrierAnswer.{BarrierAnswer}
use Rattle.gate_answers.specs.declared.BarrierAnswer.TheVariants.{Ack, Nak, Busy, Syn, Count, Position}
use Rattle.gate_laws.specs.Bytes.{Bytes, none, more}
use Rattle.gate_laws.specs.Answers.{InWidth, AnswerReadsBack, AnswerWritesBack}
use Rattle.gate_laws.proofs.Written.{passed_else, fitted_fills}

-- a position fits one byte
position_fits : (z : ℤ) → is_position z ≡ true → FitsTop top8 z
unfolding is_position
position_fits (pos n) e = omega (arith, leb-true n 100 e)
position_fits (negsuc zero) e = omega arith
position_fits (negsuc (suc n)) e = absurd (false≢true e)

count_back : (z : ℤ) → FitsTop top32 z → signed_of top32 (of_four (four_bytes (bits_of top32 z))) ≡ z
count_back z h = ap (signed_of top32) (four_back (bits_of top32 z) (bits_bound top32 z h)) ∙ signed_bits top32 z h

reads_back : (a : BarrierAnswer) → InWidth a → is_answer a ≡ true → answer_reading (answer_bytes a) ≡ reads a
unfolding answer_reading kind_reading answer_bytes four_bytes is_answer position_at
reads_back Ack h e = refl
reads_back Nak h e = refl
reads_back Busy h e = refl
reads_back Syn h e = refl
reads_back (Count z) h e = ap (λ (z : ℤ). reads (Count z)) (count_back z h)
reads_back (Position z) h e = rw (signed_bits top8 z (position_fits z e), e)

pub answer_reads_back : AnswerReadsBack
unfolding answer_writing
answer_reads_back a out n h e =
    let good = passed_else out n (is_answer a) 10 (fitted (answer_bytes a) out) e in
    let fills = fitted_fills n (answer_bytes a) out good.1 in
    rw (good.0, fills.is) (reads_back a h good.0)

-- the four bytes of a count and the one of a position, there and back
four_signed : {bs : List ℕ} → Bytes bs → length bs ≡ 4 → four_bytes (bits_of top32 (signed_of top32 (of_four bs))) ≡ bs
unfolding of_four
four_signed none e = absurd (omega arith)
four_signed (more a none) e = absurd (omega arith)
four_signed (more a (more b none)) e = absurd (omega arith)
four_signed (more a (more b (more c none))) e = absurd (omega arith)
four_signed (more {b = k} a (more {b = l} b (more {b = m} c (more {b = n} d none)))) e =
    ap four_bytes (bits_signed top32 (of_four (k ∷ l ∷ m ∷ n ∷ [])) (omega arith)) ∙ bytes_back k l m n a b c d
four_signed (more a (more b (more c (more d (more f bs))))) e = absurd (omega arith)

one_signed : {bs : List ℕ} → Bytes bs → length bs ≡ 1 → bits_of top8 (signed_of top8 (get_or bs 0 0)) ∷ [] ≡ bs
one_signed none e = absurd (omega arith)
one_signed (more {b} h none) e = rw (bits_signed top8 b (omega arith))
one_signed (more h (more i bs)) e = absurd (omega arith)

no_more : (bs : List ℕ) → length bs ≡ 0 → bs ≡ []
no_more [] e = refl
no_more (b ∷ bs) e = absurd (omega arith)

not_read : (k : ℕ) (a : BarrierAnswer) → refuses k ≡ reads a → ⊥
not_read k a e = let z : ◌≡◌ {A = ℕ} 0 1 = cc in omega arith

same_read : (a b : BarrierAnswer) → reads a ≡ reads b → a ≡ b
same_read a b e = cc

module _ (bs : List ℕ) where
  -- an answer that has these bytes
  record Has (a : BarrierAnswer) : Type 0 where
    is : answer_bytes a ≡ bs
    good : is_answer a ≡ true

  -- what is read has them
  abbrev Means : Reading → Type 0
  Means r = (a : BarrierAnswer) → r ≡ reads a → Has a

  refusing : (k : ℕ) → Means (refuses k)
  refusing k a e = absurd (not_read k a e)

  reading : (a : BarrierAnswer) → answer_bytes a ≡ bs → is_answer a ≡ true → Means (reads a)
  reading a is good b e = subst Has (same_read a b e) (record { is = is; good = good })

  long : (n : ℕ) {r : Reading} → (length bs ≡ n → Means r) → Means (sized n bs r)
  long n m = pick_by Means (eqb (length bs) n) (λ e. m (eqb-true (length bs) n e)) (λ e. refusing 7)

-- a kind, and the bytes behind it
module _ (b : ℕ) {bs : List ℕ} (bytes : Bytes bs) where
  behind : (k : ℕ) {rest : List ℕ} → eqb b k ≡ true → rest ≡ bs → k ∷ rest ≡ b ∷ bs
  behind k is e = rw (eqb-true b k is, e)

  alone_means : (k : ℕ) (a : BarrierAnswer) → answer_bytes a ≡ k ∷ [] → is_answer a ≡ true → eqb b k ≡ true →
      Means (b ∷ bs) (sized 1 (b ∷ bs) (reads a))
  alone_means k a e good is =
      long (b ∷ bs) 1 (λ n. reading (b ∷ bs) a (e ∙ behind k is (sym (no_more bs (omega arith)))) good)

  count_means : eqb b count ≡ true → Means (b ∷ bs) (sized 5 (b ∷ bs) (reads (Count (signed_of top32 (of_four bs)))))
  unfolding answer_bytes is_answer
  count_means is = long (b ∷ bs) 5 (λ n. reading (b ∷ bs) (Count _) (behind count is (four_signed bytes (omega arith))) refl)

  position_means : eqb b position ≡ true → Means (b ∷ bs) (sized 2 (b ∷ bs) (position_at (signed_of top8 (get_or bs 0 0))))
  unfolding position_at answer_bytes is_answer
  position_means is =
      long (b ∷ bs) 2
      (λ n.
      pick_by (Means (b ∷ bs)) (is_position (signed_of top8 (get_or bs 0 0)))
      (reading (b ∷ bs) (Position _) (behind position is (one_signed bytes (omega arith))))
      (λ none. refusing (b ∷ bs) 10))

  kind_means : Means (b ∷ bs) (kind_reading b (b ∷ bs))
  unfolding kind_reading answer_bytes is_answer
  kind_means =
      let M = Means (b ∷ bs) in
      pick_by M (eqb b ack) (alone_means ack Ack refl refl)
      (λ _. pick_by M (eqb b nak) (alone_means nak Nak refl refl)
      (λ _. pick_by M (eqb b busy) (alone_means busy Busy refl refl)
      (λ _. pick_by M (eqb b syn) (alone_means syn Syn refl refl)
      (λ _. pick_by M (eqb b count) count_means
      (λ _. pick_by M (eqb b position) position_means (λ _. refusing (b ∷ bs) 3))))))

means : {bs : List ℕ} → Bytes bs → Means bs (answer_reading bs)
unfolding answer_reading
means none = refusing [] 7
means (more {b} {bs} h bytes) = rw (ne_eqb (length (b ∷ bs)) 0 (λ e. omega arith)) (kind_means b bytes)

pub answer_writes_back : AnswerWritesBack
unfolding answer_writing
answer_writes_back a bs out bytes e =
    let has = means bytes a e in
    rw (has.good, has.is)
