-- Numbers there and back: a sender is written as it was read and read as it was written, and a refusal leaves all as it was.
-- Assumes nothing.
use mathlib.Core.Path.{◌≡◌, refl, ap, ◌∙◌}
use mathlib.Core.Bool.{true, ◌&&◌}
use mathlib.Core.List.{List, [], ◌∷◌}
use Prim.Native.Nat.{ℕ, zero, suc, ◌≤◌}
use native.Mathlib.Omega.{arith}
use borrow.Author.Tests.{eqb-true}
use lib.Dec.{eqb, leb}
use Rattle.base.proofs.Choice.{pick_by}
use Rattle.link_receive.specs.declared.Dle.TheVariants.{Seen, NotSeen}
use Rattle.link_receive.specs.declared.LinkState.{LinkState}
use Rattle.link_receive.specs.declared.Phase.{Phase}
use Rattle.link_receive.specs.declared.Phase.TheVariants.{Rest, Inside, Waiting}
use Rattle.link_send.specs.declared.Priority.{Priority}
use Rattle.link_send.specs.declared.Priority.TheVariants.{Low, High}
use Rattle.link_send.specs.declared.SendPhase.{SendPhase}
use Rattle.link_send.specs.declared.SendPhase.TheVariants.{Fresh, Opening, Awaiting, Receiving, Sent, GaveUp}
use Rattle.link_send.specs.declared.Sender.{Sender}
use Rattle.c_answer.specs.Answer.{refused}
use Rattle.c_link.specs.Link.{dle_at, phase_number, phase_at, state_words, state_at}
use Rattle.c_link.proofs.States.{state_parts, is_state_lem, words_back}
use Rattle.c_link_send.specs.Send.{priority_number, priority_at, send_phase_number, send_phase_at, half_in, sender_words, sender_at, is_half, is_sender, is_event, event_at, AtSender, at_sender, at_sender_by, send_call}
use Rattle.c_link_send.specs.Kept.{StateTaken, SendKept}
use Rattle.c_link_send.proofs.States.{Nine, nine, is_nine, both, IsSender, sender_parts}
use Rattle.c_link_send.proofs.Endings.{send_ends, ending_kept}

-- numbers that were read are written as they were
priority_back : (n : ℕ) → n ≤ 1 → priority_number (priority_at n) ≡ n
unfolding priority_at
priority_back zero h = refl
priority_back (suc zero) h = refl
priority_back (suc (suc n)) h = absurd (omega arith)

phase_back : (n : ℕ) (h : LinkState) → n ≤ 5 → send_phase_number (send_phase_at n h) ≡ n
unfolding send_phase_at
phase_back zero h most = refl
phase_back (suc zero) h most = refl
phase_back (suc (suc zero)) h most = refl
phase_back (suc (suc (suc zero))) h most = refl
phase_back (suc (suc (suc (suc zero)))) h most = refl
phase_back (suc (suc (suc (suc (suc zero))))) h most = refl
phase_back (suc (suc (suc (suc (suc (suc n)))))) h most = absurd (omega arith)

zeros : (p n k : ℕ) → (eqb p 0 && eqb n 0 && eqb k 0) ≡ true → 0 ∷ 0 ∷ 0 ∷ [] ≡ p ∷ n ∷ k ∷ []
zeros p n k g =
    let t = both (eqb p 0 && eqb n 0) (eqb k 0) g in
    let s = both (eqb p 0) (eqb n 0) t.0 in
    rw (eqb-true p 0 s.0, eqb-true n 0 s.1, eqb-true k 0 t.1)

half_back : (s p n k : ℕ) → s ≤ 5 → is_half s (p ∷ n ∷ k ∷ []) ≡ true →
    state_words (half_in (send_phase_at s (state_at (p ∷ n ∷ k ∷ [])))) ≡ p ∷ n ∷ k ∷ []
unfolding send_phase_at is_half
half_back zero p n k most g = zeros p n k g
half_back (suc zero) p n k most g = zeros p n k g
half_back (suc (suc zero)) p n k most g = zeros p n k g
half_back (suc (suc (suc zero))) p n k most g = words_back (p ∷ n ∷ k ∷ []) refl (state_parts (p ∷ n ∷ k ∷ []) g).phase
half_back (suc (suc (suc (suc zero)))) p n k most g = zeros p n k g
half_back (suc (suc (suc (suc (suc zero))))) p n k most g = zeros p n k g
half_back (suc (suc (suc (suc (suc (suc s)))))) p n k most g = absurd (omega arith)

numbers_back : {w : List ℕ} → Nine w → IsSender w → sender_words (sender_at w) ≡ w
unfolding sender_at
numbers_back (nine a b c d e f p n k) is =
    rw (phase_back a (state_at (p ∷ n ∷ k ∷ [])) is.phase, priority_back d is.priority, half_back a p n k is.phase is.half)

-- a sender that was written is read as it was
half_phase_there : (p : Phase) → phase_at (phase_number p) ≡ p
unfolding phase_at dle_at
half_phase_there Rest = refl
half_phase_there (Inside NotSeen) = refl
half_phase_there (Inside Seen) = refl
half_phase_there Waiting = refl

phase_there : (p : SendPhase) → send_phase_at (send_phase_number p) (state_at (state_words (half_in p))) ≡ p
unfolding send_phase_at
phase_there Fresh = refl
phase_there Opening = refl
phase_there Awaiting = refl
phase_there (Receiving h) = rw (half_phase_there h.phase)
phase_there Sent = refl
phase_there GaveUp = refl

priority_there : (p : Priority) → priority_at (priority_number p) ≡ p
unfolding priority_at
priority_there Low = refl
priority_there High = refl

sender_there : (s : Sender) → sender_at (sender_words s) ≡ s
unfolding sender_at
sender_there s = rw (phase_there s.phase, priority_there s.priority)

-- and its numbers are taken
half_phase_most : (p : Phase) → phase_number p ≤ 3
half_phase_most Rest = omega arith
half_phase_most (Inside NotSeen) = omega arith
half_phase_most (Inside Seen) = omega arith
half_phase_most Waiting = omega arith

phase_most : (p : SendPhase) → leb (send_phase_number p) 5 ≡ true
phase_most Fresh = refl
phase_most Opening = refl
phase_most Awaiting = refl
phase_most (Receiving h) = refl
phase_most Sent = refl
phase_most GaveUp = refl

priority_most : (p : Priority) → leb (priority_number p) 1 ≡ true
priority_most Low = refl
priority_most High = refl

half_taken : (p : SendPhase) → (half_in p).check ≤ 255 → is_half (send_phase_number p) (state_words (half_in p)) ≡ true
unfolding is_half
half_taken Fresh h = refl
half_taken Opening h = refl
half_taken Awaiting h = refl
half_taken (Receiving s) h = is_state_lem (state_words s) refl (half_phase_most s.phase) h
half_taken Sent h = refl
half_taken GaveUp h = refl

sender_taken : (s : Sender) → (half_in s.phase).check ≤ 255 → is_sender (sender_words s) ≡ true
unfolding is_sender
sender_taken s h = rw (phase_most s.phase, priority_most s.priority, half_taken s.phase h)

pub state_taken : StateTaken
state_taken = record {
  numbers = λ w is. let s = sender_parts w is in numbers_back (is_nine w s.nine_long) s;
  sender = sender_there;
  taken = sender_taken;
}

pub send_kept : SendKept
unfolding send_call
send_kept w event d buf out k some =
    pick_by (λ (x : AtSender). x.answer ≡ refused k → x ≡ at_sender (refused k) w buf out) (is_event event && is_sender w)
    (λ is e. ap at_sender_by (ending_kept k (send_ends (sender_at w) buf out (event_at event) d) some e)
    ∙ ap (λ (l : List ℕ). at_sender (refused k) l buf out) (state_taken.numbers w (both (is_event event) (is_sender w) is).1))
    (λ no e. ap (λ (n : ℕ). at_sender n w buf out) e)
