-- How large the value of the sender's call is: far below 2^32, so that value and kind can be told apart.
-- Assumes nothing.
use Rattle.std.specs.Prelude.{ℕ, ◌≤◌, ◌<◌, ◌≡◌, List}
use Rattle.link_frame.specs.Frame.{max_data}
use Rattle.link_send.specs.Send.{sends, delivers, send_of}
use Rattle.link_send.specs.declared.Sender.{Sender}
use Rattle.link_send.specs.declared.SendEvent.{SendEvent}
use Rattle.c_answer.specs.Answer.{kinds}
use Rattle.c_link.specs.Bounds.{max_frame}
use Rattle.c_link_send.specs.Send.{of_response}

pub record SendBounds : Type 0 where
  -- the bytes to send, and the length of a message
  pub bytes : (s : Sender) (e : SendEvent) (d buf out : List ℕ) (n : ℕ) →
      (send_of s e d buf out).outcome.reaction.response ≡ sends n → n ≤ max_frame
  pub message : (s : Sender) (e : SendEvent) (d buf out : List ℕ) (n count : ℕ) →
      (send_of s e d buf out).outcome.reaction.response ≡ delivers n count → (n ≤ max_frame) × (count ≤ max_data)
  -- and the value that they make
  pub value : (n count : ℕ) → n ≤ max_frame → count ≤ max_data → of_response (delivers n count) < kinds
