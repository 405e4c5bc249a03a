-- The numbers of an event and of a sender: the tests in turn.
-- Assumes nothing.
use mathlib.Core.Path.{◌≡◌, refl}
use mathlib.Core.Bool.{Bool, true, false, ◌&&◌, and-false, and-eq-true_iff}
use mathlib.Core.List.{List, [], ◌∷◌}
use Prim.Native.Nat.{ℕ, ◌≤◌, ◌<◌}
use native.Mathlib.Omega.{arith}
use borrow.Author.Tests.{eqb-true, eq-eqb, ne_eqb, leb-true, le-leb, lt-leb}
use lib.Dec.{eqb, leb}
use lib.ListN.{length, get_or, drop}
use Rattle.base.proofs.Choice.{pick_either}
use Rattle.link_receive.specs.Receive.{at}
use Rattle.link_receive.specs.declared.Phase.{Phase}
use Rattle.link_send.specs.Send.{attempts, send_of}
use Rattle.link_send.specs.declared.Priority.{Priority}
use Rattle.link_send.specs.declared.SendPhase.{SendPhase}
use Rattle.link_send.specs.declared.Sender.{Sender}
use Rattle.c_answer.specs.Answer.{refused}
use Rattle.c_link.specs.Link.{phase_at}
use Rattle.c_link.proofs.States.{state_parts}
use Rattle.c_link_send.specs.Send.{priority_at, send_phase_at, sender_at, is_half, is_sender, start, is_event, event_at, at_sender, at_sender_by, send_call}

-- nine numbers, one by one
pub data Nine : List ℕ → Type 0 where
  nine : (a b c d e f p n k : ℕ) → Nine (a ∷ b ∷ c ∷ d ∷ e ∷ f ∷ p ∷ n ∷ k ∷ [])

pub is_nine : (w : List ℕ) → length w ≡ 9 → Nine w
is_nine [] h = absurd (omega arith)
is_nine (a ∷ []) h = absurd (omega arith)
is_nine (a ∷ b ∷ []) h = absurd (omega arith)
is_nine (a ∷ b ∷ c ∷ []) h = absurd (omega arith)
is_nine (a ∷ b ∷ c ∷ d ∷ []) h = absurd (omega arith)
is_nine (a ∷ b ∷ c ∷ d ∷ e ∷ []) h = absurd (omega arith)
is_nine (a ∷ b ∷ c ∷ d ∷ e ∷ f ∷ []) h = absurd (omega arith)
is_nine (a ∷ b ∷ c ∷ d ∷ e ∷ f ∷ p ∷ []) h = absurd (omega arith)
is_nine (a ∷ b ∷ c ∷ d ∷ e ∷ f ∷ p ∷ n ∷ []) h = absurd (omega arith)
is_nine (a ∷ b ∷ c ∷ d ∷ e ∷ f ∷ p ∷ n ∷ k ∷ []) h = nine a b c d e f p n k
is_nine (a ∷ b ∷ c ∷ d ∷ e ∷ f ∷ p ∷ n ∷ k ∷ x ∷ l) h = absurd (omega arith)

-- the last three of them
abbrev pub half_words : List ℕ → List ℕ
half_words w = get_or w 6 0 ∷ get_or w 7 0 ∷ get_or w 8 0 ∷ []

last_three : {w : List ℕ} → Nine w → drop 6 w ≡ half_words w
last_three (nine a b c d e f p n k) = refl

pub both : (s t : Bool) → (s && t) ≡ true → (s ≡ true) × (t ≡ true)
both s t = (and-eq-true_iff s t).0

pub half_byte : (s : ℕ) (h : List ℕ) → is_half s h ≡ true → get_or h 2 0 ≤ 255
unfolding is_half
half_byte s h =
    let p = eqb (get_or h 0 0) 0 in
    let n = eqb (get_or h 1 0) 0 in
    let k = eqb (get_or h 2 0) 0 in
    pick_either (λ (t : Bool). t ≡ true → get_or h 2 0 ≤ 255) (eqb s 3)
    (λ g. (state_parts h g).check)
    (λ g. omega (arith, eqb-true (get_or h 2 0) 0 (both (p && n) k g).1))

-- what a sender is
pub record IsSender (w : List ℕ) : Type 0 where
  pub nine_long : length w ≡ 9
  pub phase : get_or w 0 0 ≤ 5
  pub priority : get_or w 3 0 ≤ 1
  pub half : is_half (get_or w 0 0) (drop 6 w) ≡ true

module _ (w : List ℕ) where
  pub sender_parts : is_sender w ≡ true → IsSender w
  unfolding is_sender
  sender_parts g =
      let a = eqb (length w) 9 in
      let b = leb (get_or w 0 0) 5 in
      let c = leb (get_or w 3 0) 1 in
      let r = both (a && b && c) (is_half (get_or w 0 0) (drop 6 w)) g in
      let s = both (a && b) c r.0 in
      let t = both a b s.0 in
      record {
        nine_long = eqb-true (length w) 9 t.0;
        phase = leb-true (get_or w 0 0) 5 t.1;
        priority = leb-true (get_or w 3 0) 1 s.1;
        half = r.1;
      }

  -- what numbers that are none lack
  pub not_nine : (length w ≡ 9 → ⊥) → is_sender w ≡ false
  unfolding is_sender
  not_nine h = rw (ne_eqb (length w) 9 h)

  pub no_phase : 5 < get_or w 0 0 → is_sender w ≡ false
  unfolding is_sender
  no_phase h = rw (lt-leb (get_or w 0 0) 5 h, and-false (eqb (length w) 9))

  pub no_priority : 1 < get_or w 3 0 → is_sender w ≡ false
  unfolding is_sender
  no_priority h = rw (lt-leb (get_or w 3 0) 1 h, and-false (eqb (length w) 9 && leb (get_or w 0 0) 5))

  -- nine numbers, of which the last three are those of a half or not
  module _ (long : length w ≡ 9) where
    pub no_half : is_half (get_or w 0 0) (half_words w) ≡ false → is_sender w ≡ false
    unfolding is_sender
    no_half h = rw (last_three (is_nine w long), h, and-false (eqb (length w) 9 && leb (get_or w 0 0) 5 && leb (get_or w 3 0) 1))

    pub is_sender_lem : get_or w 0 0 ≤ 5 → get_or w 3 0 ≤ 1 → is_half (get_or w 0 0) (half_words w) ≡ true → is_sender w ≡ true
    unfolding is_sender
    is_sender_lem phase priority half =
        rw (eq-eqb (length w) 9 long, le-leb (get_or w 0 0) 5 phase, le-leb (get_or w 3 0) 1 priority, last_three (is_nine w long), half)

    -- what is read of them
    pub sender_read : {p : Phase} {q : Priority} {r : SendPhase} → p ≡ phase_at (get_or w 6 0) → q ≡ priority_at (get_or w 3 0) →
        r ≡ send_phase_at (get_or w 0 0) (at p (get_or w 7 0) (get_or w 8 0)) →
        ◌≡◌ {A = Sender} (record { limits = attempts (get_or w 1 0) (get_or w 2 0); failed = attempts (get_or w 4 0) (get_or w 5 0); priority = q; phase = r }) (sender_at w)
    unfolding sender_at
    sender_read half priority phase = rw (phase, half, priority, last_three (is_nine w long))

-- the call, by event and numbers
module _ (w : List ℕ) (event : ℕ) (d buf out : List ℕ) where
  pub no_event : start < event → send_call w event d buf out ≡ at_sender (refused 1) w buf out
  unfolding send_call is_event
  no_event h = rw (lt-leb event start h)

  pub no_sender : is_sender w ≡ false → send_call w event d buf out ≡ at_sender (refused 1) w buf out
  unfolding send_call
  no_sender h = rw (h, and-false (is_event event))

  pub at_sender_lem : event ≤ start → is_sender w ≡ true →
      send_call w event d buf out ≡ at_sender_by (send_of (sender_at w) (event_at event) d buf out).outcome
  unfolding send_call is_event
  at_sender_lem h is = rw (le-leb event start h, is)
