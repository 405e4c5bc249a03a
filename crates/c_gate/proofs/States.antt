-- The numbers of an event and of a state: the tests in turn, and two lists compared place by place.
-- Assumes nothing.
use mathlib.Core.Path.{◌≡◌, refl, ap}
use mathlib.Core.Bool.{Bool, true, false, ◌&&◌, and-false, and-eq-true_iff, false≢true}
use mathlib.Core.List.{List, [], ◌∷◌}
use Prim.Native.Nat.{ℕ, ◌≤◌, ◌<◌}
use native.Mathlib.Omega.{arith}
use borrow.Author.Tests.{eqb-true, eq-eqb, ne_eqb, leb-true, le-leb, lt-leb}
use lib.Dec.{eqb, leb}
use lib.ListN.{length, get_or}
use lib.Pointwise.{pointwise}
use mir.Syntax.{w8, w16}
use mir.Val.{Fits}
use Rattle.gate_receive.specs.Receive.{receive_of}
use Rattle.gate_receive.specs.declared.GateState.{GateState}
use Rattle.c_answer.specs.Answer.{refused}
use Rattle.c_answer.specs.Event.{timer, event_at}
use Rattle.c_gate.specs.Bus.{state_words, state_at, fits, same, is_state, received, received_by, receive_call}

-- what fitting numbers are
pub record Fitting (w : List ℕ) : Type 0 where
  pub seven : length w ≡ 7
  pub destination : get_or w 1 0 ≤ 255
  pub source : get_or w 2 0 ≤ 255
  pub size : get_or w 3 0 ≤ 255
  pub check : get_or w 5 0 ≤ 65535
  pub high : get_or w 6 0 ≤ 255

-- what fits is narrowed without loss
pub byte_fits : {n : ℕ} → n ≤ 255 → Fits w8 n
byte_fits h = record { fits = omega arith }

pub word_fits : {n : ℕ} → n ≤ 65535 → Fits w16 n
word_fits h = record { fits = omega arith }

both : (s t : Bool) → (s && t) ≡ true → (s ≡ true) × (t ≡ true)
both s t = (and-eq-true_iff s t).0

module _ (w : List ℕ) where
  pub fits_parts : fits w ≡ true → Fitting w
  unfolding fits
  fits_parts g =
      let a = eqb (length w) 7 in
      let b = leb (get_or w 1 0) 255 in
      let c = leb (get_or w 2 0) 255 in
      let d = leb (get_or w 3 0) 255 in
      let e = leb (get_or w 5 0) 65535 in
      let p = both (a && b && c && d && e) (leb (get_or w 6 0) 255) g in
      let q = both (a && b && c && d) e p.0 in
      let r = both (a && b && c) d q.0 in
      let s = both (a && b) c r.0 in
      let t = both a b s.0 in
      record {
        seven = eqb-true (length w) 7 t.0;
        destination = leb-true (get_or w 1 0) 255 t.1;
        source = leb-true (get_or w 2 0) 255 s.1;
        size = leb-true (get_or w 3 0) 255 r.1;
        check = leb-true (get_or w 5 0) 65535 q.1;
        high = leb-true (get_or w 6 0) 255 p.1;
      }

  pub not_seven : (length w ≡ 7 → ⊥) → fits w ≡ false
  unfolding fits
  not_seven h = rw (ne_eqb (length w) 7 h)

-- two lists, place by place
pub same_self : (l : List ℕ) → same l l ≡ true
unfolding same
same_self [] = refl
same_self (a ∷ l) = rw (eq-eqb a a refl) (same_self l)

pub same_equal : (a b : List ℕ) → same a b ≡ true → a ≡ b
unfolding same
same_equal [] [] e = refl
same_equal [] (y ∷ b) e = absurd (false≢true e)
same_equal (x ∷ a) [] e = absurd (false≢true e)
same_equal (x ∷ a) (y ∷ b) e =
    let t = both (eqb x y) (same a b) e in
    rw (eqb-true x y t.0, same_equal a b t.1)

pub same_is : (a b : List ℕ) → pointwise eqb a b ≡ same a b
unfolding same
same_is [] [] = refl
same_is [] (y ∷ b) = refl
same_is (x ∷ a) [] = refl
same_is (x ∷ a) (y ∷ b) = ap (λ (t : Bool). eqb x y && t) (same_is a b)

-- the two tests of a state
module _ (w : List ℕ) where
  pub not_fitting : fits w ≡ false → is_state w ≡ false
  unfolding is_state
  not_fitting h = rw h

  pub state_compared : {s : GateState} {l : List ℕ} → fits w ≡ true → s ≡ state_at w → l ≡ state_words s → same w l ≡ is_state w
  unfolding is_state
  state_compared h is numbers = rw (numbers, is, h)

  pub state_parts : is_state w ≡ true → (fits w ≡ true) × (same w (state_words (state_at w)) ≡ true)
  unfolding is_state
  state_parts g = both (fits w) (same w (state_words (state_at w))) g

-- the call, by event and state
module _ (own : ℕ) (w st : List ℕ) (event : ℕ) (out : List ℕ) where
  pub no_event : timer < event → receive_call own w st event out ≡ received (refused 1) w st out
  unfolding receive_call
  no_event h = rw (lt-leb event timer h)

  pub no_state : is_state w ≡ false → receive_call own w st event out ≡ received (refused 1) w st out
  unfolding receive_call
  no_state h = rw (h, and-false (leb event timer))

  pub at_state : event ≤ timer → is_state w ≡ true →
      receive_call own w st event out ≡ received_by (receive_of own (state_at w) st (event_at event) out)
  unfolding receive_call
  at_state h is = rw (le-leb event timer h, is)
