-- The doubled data: from a place on, as a byte or a part and what is left behind it; and by how many DLEs the data has.
-- Assumes nothing.
use mathlib.Core.Path.{◌≡◌, refl, ap, sym, ◌∙◌}
use mathlib.Core.Bool.{Bool, true, false, cond}
use mathlib.Core.List.{List, [], ◌∷◌, ◌++◌, append_assoc}
use Prim.Native.Nat.{ℕ, zero, suc, ◌+◌, ◌*◌, ◌≤◌, ◌<◌}
use native.Mathlib.Nat.{add-suc, suc-add, zero-mul}
use native.Mathlib.Numerals.{add-one}
use native.Mathlib.Omega.{arith}
use borrow.Author.Tests.{eq-eqb, ne_eqb, eqb-true}
use lib.Dec.{eqb}
use lib.ListN.{length, take, drop, get_or, replicate, take-append-drop, drop_of_length-le}
use lib.Seq.{drop-cons, drop-drop}
use Rattle.std.proofs.lemmas.List.Recursion.{is_count_by}
use Rattle.std.specs.List.{count_by}
use Rattle.std.specs.Simd.{first_chunks}
use Rattle.base.specs.Choice.{pick}
use Rattle.base.proofs.Writing.{Splits}
use Rattle.link_frame.specs.ControlBytes.{DLE}
use Rattle.link_frame.specs.Frame.{sent, doubled}
use Rattle.link_frame.specs.Private.Tests.{is_dle}

-- a DLE is sent twice, any other byte once
module _ (b : ℕ) where
  pub sent_dle : b ≡ DLE → sent b ≡ b ∷ b ∷ []
  unfolding sent
  sent_dle e = simp (eq-eqb _ _ e)

  pub sent_other : (b ≡ DLE → ⊥) → sent b ≡ b ∷ []
  unfolding sent
  sent_other d = simp (ne_eqb _ _ d)

doubled_append : (xs ys : List ℕ) → doubled (xs ++ ys) ≡ doubled xs ++ doubled ys
unfolding doubled
doubled_append [] ys = refl
doubled_append (x ∷ xs) ys = rw (doubled_append xs ys) (sym (append_assoc (sent x) (doubled xs) (doubled ys)))

pub none_left : (d : List ℕ) (i : ℕ) → length d ≤ i → doubled (drop i d) ≡ []
unfolding doubled
none_left d i h = rw (drop_of_length-le d h)

-- the byte at place i as it is sent
abbrev pub Twice : List ℕ → ℕ → Type 0
Twice d i = Splits (doubled (drop i d)) (get_or d i 0 ∷ get_or d i 0 ∷ []) (doubled (drop (i + 1) d))

abbrev pub Once : List ℕ → ℕ → Type 0
Once d i = Splits (doubled (drop i d)) (get_or d i 0 ∷ []) (doubled (drop (i + 1) d))

module _ (d : List ℕ) (i : ℕ) (h : i < length d) where
  next : {s : List ℕ} → sent (get_or d i 0) ≡ s → Splits (doubled (drop i d)) s (doubled (drop (i + 1) d))
  unfolding doubled
  next e = record { is = rw (drop-cons d i 0, add-one) (rw e) }

  pub next_dle : get_or d i 0 ≡ DLE → Twice d i
  next_dle e = next (sent_dle (get_or d i 0) e)

  pub next_other : (get_or d i 0 ≡ DLE → ⊥) → Once d i
  next_other e = next (sent_other (get_or d i 0) e)

-- a part of n bytes, behind i others
part_at : (n k i : ℕ) (d : List ℕ) → i < k → get_or (first_chunks n k d) i [] ≡ take n (drop (i * n) d)
part_at n zero i d h = absurd (omega arith)
part_at n (suc k) zero d h = rw zero-mul
part_at n (suc k) (suc i) d h =
    part_at n k i (drop n d) (omega arith)
    ∙ rw (drop-drop (i * n) n d)
    (ap (λ (m : ℕ). take n (drop m d)) (omega arith))

pub next_part : (n k i : ℕ) (d : List ℕ) → i < k →
    Splits (doubled (drop (i * n) d)) (doubled (get_or (first_chunks n k d) i [])) (doubled (drop ((i + 1) * n) d))
next_part n k i d h =
    let next : i * n + n ≡ (i + 1) * n = omega arith in
    record {
      is =
          ap doubled (sym (take-append-drop n (drop (i * n) d)))
          ∙ doubled_append (take n (drop (i * n) d)) _
          ∙ rw (part_at n k i d h, drop-drop n (i * n) d, next);
    }

-- how many DLEs some data has
unfoldable pub dles : List ℕ → ℕ
dles [] = 0
dles (b ∷ bs) = pick (eqb b DLE) (suc (dles bs)) (dles bs)

module _ (b : ℕ) (bs : List ℕ) where
  count_first : (t : Bool) → pick t (suc (dles bs)) (dles bs) ≡ cond t (1 + dles bs) (dles bs)
  count_first true = omega arith
  count_first false = refl

  length_first : (t : Bool) → length (doubled bs) ≡ length bs + dles bs →
      length (pick t (b ∷ b ∷ []) (b ∷ []) ++ doubled bs) ≡ suc (length bs) + pick t (suc (dles bs)) (dles bs)
  length_first true e = omega arith
  length_first false e = omega arith

  few_first : (t : Bool) → dles bs ≤ length bs → pick t (suc (dles bs)) (dles bs) ≤ suc (length bs)
  few_first true h = omega arith
  few_first false h = omega arith

  -- data with no DLE in it is sent as it is
  plain_first : (t : Bool) → (dles bs ≡ 0 → doubled bs ≡ bs) → pick t (suc (dles bs)) (dles bs) ≡ 0 →
      pick t (b ∷ b ∷ []) (b ∷ []) ++ doubled bs ≡ b ∷ bs
  plain_first true ih p = absurd (omega arith)
  plain_first false ih p = rw (ih p)

  -- data that is nothing but DLE is sent as a run of twice its length
  run_first : (t : Bool) → eqb b DLE ≡ t → dles bs ≤ length bs →
      (dles bs ≡ length bs → doubled bs ≡ replicate (length bs + length bs) DLE) →
      pick t (suc (dles bs)) (dles bs) ≡ suc (length bs) →
      pick t (b ∷ b ∷ []) (b ∷ []) ++ doubled bs ≡ replicate (suc (length bs) + suc (length bs)) DLE
  run_first false e few ih p = absurd (omega arith)
  run_first true e few ih p =
      rw (ih (omega arith), eqb-true b DLE e, suc-add (length bs) (suc (length bs)), add-suc (length bs) (length bs))

pub dles_counted : (d : List ℕ) → dles d ≡ count_by is_dle d
unfolding dles
dles_counted d = is_count_by dles is_dle refl (λ b bs. count_first b bs (eqb b DLE)) d

-- each DLE makes the data as it is sent one byte longer
pub length_doubled : (d : List ℕ) → length (doubled d) ≡ length d + dles d
unfolding doubled sent dles
length_doubled [] = refl
length_doubled (b ∷ bs) = length_first b bs (eqb b DLE) (length_doubled bs)

few_dles : (d : List ℕ) → dles d ≤ length d
unfolding dles
few_dles [] = omega arith
few_dles (b ∷ bs) = few_first b bs (eqb b DLE) (few_dles bs)

pub plain : (d : List ℕ) → dles d ≡ 0 → doubled d ≡ d
unfolding doubled sent dles
plain [] = λ p. refl
plain (b ∷ bs) = plain_first b bs (eqb b DLE) (plain bs)

pub run : (d : List ℕ) → dles d ≡ length d → doubled d ≡ replicate (length d + length d) DLE
unfolding doubled sent dles
run [] = λ p. refl
run (b ∷ bs) = run_first b bs (eqb b DLE) refl (few_dles bs) (run bs)

-- the doubled data is at most twice as long
pub doubled_bound : (d : List ℕ) → length (doubled d) ≤ 2 * length d
doubled_bound d = omega (arith, length_doubled d, few_dles d)
