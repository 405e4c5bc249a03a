-- Numbers there and back: a refusal leaves them as they were, and the numbers of a sender are taken again.
-- Assumes nothing.
use Rattle.std.specs.Prelude.{ℕ, ◌≤◌, ◌≡◌, true, List}
use Rattle.link_send.specs.declared.Sender.{Sender}
use Rattle.c_answer.specs.Answer.{refused}
use Rattle.c_link_send.specs.Send.{half_in, sender_words, sender_at, is_sender, at_sender, send_call}

pub record StateTaken : Type 0 where
  -- numbers that are a sender are written as they were read
  pub numbers : (w : List ℕ) → is_sender w ≡ true → sender_words (sender_at w) ≡ w
  -- a sender is read as it was written, and where the check of its half is a byte, its numbers are taken
  pub sender : (s : Sender) → sender_at (sender_words s) ≡ s
  pub taken : (s : Sender) → (half_in s.phase).check ≤ 255 → is_sender (sender_words s) ≡ true

-- a refused call leaves state, buffer and output as they were
abbrev pub SendKept : Type 0
SendKept =
    (w : List ℕ) (event : ℕ) (d buf out : List ℕ) (k : ℕ) → 1 ≤ k → (send_call w event d buf out).answer ≡ refused k →
    send_call w event d buf out ≡ at_sender (refused k) w buf out
