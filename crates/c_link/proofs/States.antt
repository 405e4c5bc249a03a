-- The numbers of an event and of a state: the tests in turn, and that the numbers of a state are read as that state.
-- Assumes nothing.
use mathlib.Core.Path.{◌≡◌, refl, ap}
use mathlib.Core.Bool.{Bool, true, false, not, ◌&&◌, and-false, and-eq-true_iff}
use mathlib.Core.List.{List, [], ◌∷◌}
use Prim.Native.Nat.{ℕ, zero, suc, ◌≤◌, ◌<◌}
use native.Mathlib.Omega.{arith}
use borrow.Author.Tests.{eqb-true, eq-eqb, ne_eqb, leb-true, le-leb, lt-leb}
use lib.Dec.{eqb, leb}
use lib.ListN.{length, get_or}
use Rattle.link_receive.specs.Receive.{against, receive_of}
use Rattle.c_answer.specs.Answer.{refused}
use Rattle.c_answer.specs.Event.{event_at}
use Rattle.c_link.specs.Link.{dle_at, phase_number, phase_at, is_state, state_words, state_at, is_event, received, received_by, receive_call}

-- what a state is
pub record State (words : List ℕ) : Type 0 where
  pub three : length words ≡ 3
  pub phase : get_or words 0 0 ≤ 3
  pub check : get_or words 2 0 ≤ 255

pub state_parts : (words : List ℕ) → is_state words ≡ true → State words
unfolding is_state
state_parts words g =
    let p = (and-eq-true_iff (eqb (length words) 3 && leb (get_or words 0 0) 3) (leb (get_or words 2 0) 255)).0 g in
    let q = (and-eq-true_iff (eqb (length words) 3) (leb (get_or words 0 0) 3)).0 p.0 in
    record { three = eqb-true (length words) 3 q.0; phase = leb-true (get_or words 0 0) 3 q.1; check = leb-true (get_or words 2 0) 255 p.1 }

-- what numbers that are none lack
module _ (words : List ℕ) where
  pub not_three : (length words ≡ 3 → ⊥) → is_state words ≡ false
  unfolding is_state
  not_three h = rw (ne_eqb (length words) 3 h)

  pub no_phase : 3 < get_or words 0 0 → is_state words ≡ false
  unfolding is_state
  no_phase h = rw (lt-leb (get_or words 0 0) 3 h, and-false (eqb (length words) 3))

  pub no_check : 255 < get_or words 2 0 → is_state words ≡ false
  unfolding is_state
  no_check h = rw (lt-leb (get_or words 2 0) 255 h, and-false (eqb (length words) 3 && leb (get_or words 0 0) 3))

-- what is taken: a state that is not against its buffer
abbrev pub taken : List ℕ → List ℕ → Bool
taken words buf = is_state words && not (against (get_or words 1 0) buf)

not_event : (s t u : Bool) → (t && u) ≡ false → (s && t && u) ≡ false
not_event true t u e = e
not_event false t u e = refl

-- the call, by these tests
module _ (words : List ℕ) (event : ℕ) (buf : List ℕ) where
  pub no_event : 256 < event → receive_call words event buf ≡ received (refused 1) words buf
  unfolding receive_call is_event
  no_event h = rw (lt-leb event 256 h)

  pub no_state : is_state words ≡ false → receive_call words event buf ≡ received (refused 1) words buf
  unfolding receive_call
  no_state h = rw (h, and-false (is_event event))

  pub not_taken : taken words buf ≡ false → receive_call words event buf ≡ received (refused 1) words buf
  unfolding receive_call
  not_taken h = rw (not_event (is_event event) (is_state words) (not (against (get_or words 1 0) buf)) h)

  pub at_state : event ≤ 256 → taken words buf ≡ true →
      receive_call words event buf ≡ received_by (receive_of (state_at words) (event_at event) buf)
  unfolding receive_call is_event
  at_state some is =
      let p = (and-eq-true_iff (is_state words) (not (against (get_or words 1 0) buf))).0 is in
      rw (le-leb event 256 some, p.0, p.1)

pub is_state_lem : (words : List ℕ) → length words ≡ 3 → get_or words 0 0 ≤ 3 → get_or words 2 0 ≤ 255 → is_state words ≡ true
unfolding is_state
is_state_lem words three phase check =
    rw (eq-eqb (length words) 3 three, le-leb (get_or words 0 0) 3 phase, le-leb (get_or words 2 0) 255 check)

-- the numbers of a state are read as that state
phase_back : (n : ℕ) → n ≤ 3 → phase_number (phase_at n) ≡ n
unfolding phase_at dle_at
phase_back zero h = refl
phase_back (suc zero) h = refl
phase_back (suc (suc zero)) h = refl
phase_back (suc (suc (suc zero))) h = refl
phase_back (suc (suc (suc (suc n)))) h = absurd (omega arith)

pub words_back : (words : List ℕ) → length words ≡ 3 → get_or words 0 0 ≤ 3 → state_words (state_at words) ≡ words
words_back [] e h = absurd (omega arith)
words_back (a ∷ []) e h = absurd (omega arith)
words_back (a ∷ b ∷ []) e h = absurd (omega arith)
words_back (a ∷ b ∷ c ∷ []) e h = ap (λ (n : ℕ). n ∷ b ∷ c ∷ []) (phase_back a h)
words_back (a ∷ b ∷ c ∷ d ∷ l) e h = absurd (omega arith)
