-- The check byte from the exclusive or of the data: each DLE is sent twice and cancels itself.
-- Assumes nothing.
use mathlib.Core.Path.{◌≡◌, refl, sym, ap, ◌∙◌}
use mathlib.Core.Bool.{Bool, true, false}
use mathlib.Core.List.{List, [], ◌∷◌, ◌++◌}
use Prim.Native.Nat.{ℕ, zero, suc, ◌-◌, ◌%◌, ◌≤◌}
use native.Mathlib.Nat.{add-mod_right}
use native.Mathlib.Numerals.{add-two}
use native.Mathlib.Omega.{arith}
use borrow.Author.Tests.{eqb-true}
use lib.Bits.{bit_xor}
use lib.Dec.{eqb}
use lib.ListN.{length, replicate}
use Rattle.std.specs.List.{fold}
use Rattle.base.specs.Choice.{pick}
use Rattle.link_frame.specs.ControlBytes.{ETX, DLE}
use Rattle.link_frame.specs.Frame.{sent, doubled, xor_over, checked, check_byte}
use Rattle.link_frame.proofs.Doubling.{dles, length_doubled}
use Rattle.link_frame.proofs.Xor.{xor_swap, xor_twice}

xor_append : (c : ℕ) (xs ys : List ℕ) → xor_over c (xs ++ ys) ≡ xor_over (xor_over c xs) ys
unfolding xor_over
xor_append c [] ys = refl
xor_append c (x ∷ xs) ys = xor_append (bit_xor c x) xs ys

-- the check byte from the exclusive or over the doubled data
pub check_byte_lem : (d : List ℕ) → check_byte d ≡ bit_xor (bit_xor (xor_over 0 (doubled d)) DLE) ETX
unfolding check_byte checked xor_over
check_byte_lem d = xor_append 0 (doubled d) (DLE ∷ ETX ∷ [])

-- a number more, before a list or behind it
xor_more : (c b : ℕ) (l : List ℕ) → xor_over (bit_xor c b) l ≡ bit_xor (xor_over c l) b
unfolding xor_over
xor_more c b [] = refl
xor_more c b (x ∷ l) = ap (λ (n : ℕ). xor_over n l) (xor_swap c b x) ∙ xor_more (bit_xor c x) b l

-- of a run of one number at most one is left
xor_run : (b n c : ℕ) → xor_over c (replicate n b) ≡ xor_over c (replicate (n % 2) b)
unfolding xor_over
xor_run b zero c = refl
xor_run b (suc zero) c = refl
xor_run b (suc (suc n)) c =
    ap (λ (k : ℕ). xor_over k (replicate n b)) (xor_twice c b)
    ∙ xor_run b n c
    ∙ ap (λ (k : ℕ). xor_over c (replicate k b)) (sym (add-mod_right n 2) ∙ ap (λ (k : ℕ). k % 2) (add-two n))

-- the exclusive or as the code takes it
pub xor_folded : (c : ℕ) (l : List ℕ) → fold bit_xor c l ≡ xor_over c l
unfolding xor_over
xor_folded c [] = refl
xor_folded c (x ∷ l) = xor_folded (bit_xor c x) l

module _ (b : ℕ) (bs : List ℕ) where
  xor_first : (t : Bool) → eqb b DLE ≡ t →
      ((c : ℕ) → xor_over c (doubled bs) ≡ xor_over (xor_over c bs) (replicate (dles bs) DLE)) → (c : ℕ) →
      xor_over c (pick t (b ∷ b ∷ []) (b ∷ []) ++ doubled bs)
      ≡ xor_over (xor_over (bit_xor c b) bs) (replicate (pick t (suc (dles bs)) (dles bs)) DLE)
  unfolding xor_over
  xor_first true e ih c =
      ih (bit_xor (bit_xor c b) b)
      ∙ ap (λ (k : ℕ). xor_over k (replicate (dles bs) DLE))
      (xor_more (bit_xor c b) b bs ∙ ap (bit_xor (xor_over (bit_xor c b) bs)) (eqb-true b DLE e))
  xor_first false e ih c = ih (bit_xor c b)

pub not_shorter : (d : List ℕ) → length d ≤ length (doubled d)
not_shorter d = omega (arith, length_doubled d)

-- and is in the exclusive or of what is sent once more than in that of the data
xor_doubled : (d : List ℕ) (c : ℕ) → xor_over c (doubled d) ≡ xor_over (xor_over c d) (replicate (dles d) DLE)
unfolding doubled sent dles xor_over
xor_doubled [] = λ c. refl
xor_doubled (b ∷ bs) = xor_first b bs (eqb b DLE) refl (xor_doubled bs)

-- n bytes are sent
module _ (d : List ℕ) (n : ℕ) (sends : n ≡ length (doubled d)) where
  -- the exclusive or over them is that of the data, and one DLE more where the data has an odd number of DLEs
  xor_sent : xor_over 0 (doubled d) ≡ xor_over (xor_over 0 d) (replicate ((n - length d) % 2) DLE)
  xor_sent =
      let many : dles d ≡ n - length d = omega (arith, length_doubled d) in
      xor_doubled d 0
      ∙ xor_run DLE (dles d) (xor_over 0 d)
      ∙ ap (λ (k : ℕ). xor_over (xor_over 0 d) (replicate (k % 2) DLE)) many

  pub check_even : (n - length d) % 2 ≡ 0 → check_byte d ≡ bit_xor (bit_xor (xor_over 0 d) DLE) ETX
  unfolding xor_over
  check_even e = rw (check_byte_lem d, xor_sent, e)

  pub check_odd : (n - length d) % 2 ≡ 1 → check_byte d ≡ bit_xor (xor_over 0 d) ETX
  unfolding xor_over
  check_odd e = rw (check_byte_lem d, xor_sent, e) (ap (λ (k : ℕ). bit_xor k ETX) (xor_twice (xor_over 0 d) DLE))
