-- Levels and edges as numbers.
-- Assumes nothing.
use mathlib.Core.Path.{◌≡◌, refl, sym, ap, ◌∙◌}
use mathlib.Core.Bool.{Bool, true, false, ◌&&◌, and-false, and-eq-true_iff}
use mathlib.Core.List.{List, [], ◌∷◌}
use Prim.Native.Nat.{ℕ, zero, suc, ◌<◌}
use borrow.Author.Tests.{eqb-true, eq-eqb, ne_eqb}
use lib.Dec.{eqb, leb}
use lib.ListN.{length, get_or}
use mir.Val.{bool_byte}
use Rattle.std.specs.List.{list_all}
use Rattle.std.proofs.lemmas.List.FromFn.{fill_by_all}
use Rattle.gate_commands.specs.Commands.{commands, operating}
use Rattle.c_answer.specs.Answer.{refused}
use Rattle.c_gate.specs.Commands.{bit_numbers, bits_at, none_above1, is_bits, registers_at, operated, operated_by, operate_call}

pub length_bits : (l : List ℕ) → length (bits_at l) ≡ length l
unfolding bits_at
length_bits [] = refl
length_bits (n ∷ l) = ap suc (length_bits l)

pub length_numbers : (l : List Bool) → length (bit_numbers l) ≡ length l
unfolding bit_numbers
length_numbers [] = refl
length_numbers (b ∷ l) = ap suc (length_numbers l)

pub bit_at : (l : List ℕ) (i : ℕ) → eqb (get_or l i 0) 1 ≡ get_or (bits_at l) i false
unfolding bits_at
bit_at [] i = refl
bit_at (n ∷ l) zero = refl
bit_at (n ∷ l) (suc i) = bit_at l i

pub number_at : (l : List Bool) (i : ℕ) → bool_byte (get_or l i false) ≡ get_or (bit_numbers l) i 0
unfolding bit_numbers
number_at [] i = refl
number_at (true ∷ l) zero = refl
number_at (false ∷ l) zero = refl
number_at (b ∷ l) (suc i) = number_at l i

-- two lists of n that are the same place by place
pub same_places : {A : Type 0} (d : A) (n : ℕ) {l m : List A} → length l ≡ n → length m ≡ n →
    ((i : ℕ) → i < n → get_or l i d ≡ get_or m i d) → l ≡ m
same_places d n {l} {m} h k same =
    fill_by_all (λ i. get_or m i d) l n d h same ∙ sym (fill_by_all (λ i. get_or m i d) m n d k (λ i _. refl))

-- the test of every number
pub above_all : (l : List ℕ) → list_all (λ n. leb n 1) l ≡ none_above1 l
unfolding none_above1
above_all [] = refl
above_all (n ∷ l) = ap (λ (b : Bool). leb n 1 && b) (above_all l)

module _ (l : List ℕ) where
  pub not_ten : (length l ≡ commands → ⊥) → is_bits l ≡ false
  unfolding is_bits
  not_ten h = rw (ne_eqb (length l) commands h)

  pub of_ten : length l ≡ commands → is_bits l ≡ none_above1 l
  unfolding is_bits
  of_ten h = rw (eq-eqb (length l) commands h)

  pub bits_ten : is_bits l ≡ true → length l ≡ commands
  unfolding is_bits
  bits_ten g = eqb-true (length l) commands ((and-eq-true_iff (eqb (length l) commands) (none_above1 l)).0 g).0

-- the call, by the tests
module _ (bs levels edges : List ℕ) where
  pub bad_levels : is_bits levels ≡ false → operate_call bs levels edges ≡ operated (refused 1) levels edges
  unfolding operate_call
  bad_levels h = rw h

  pub bad_edges : is_bits edges ≡ false → operate_call bs levels edges ≡ operated (refused 1) levels edges
  unfolding operate_call
  bad_edges h = rw (h, and-false (is_bits levels))

  pub of_bits : is_bits levels ≡ true → is_bits edges ≡ true →
      operate_call bs levels edges ≡ operated_by (operating (registers_at levels edges) bs)
  unfolding operate_call
  of_bits h k = rw (h, k)
