-- How large the values of the link's calls are: far below 2^32, so that value and kind can be told apart.
-- Assumes nothing.
use Rattle.std.specs.Prelude.{ℕ, ◌≤◌, ◌≡◌, List}
use Rattle.base.specs.Filling.{filled}
use Rattle.link_frame.specs.Frame.{framing, max_data}
use Rattle.link_receive.specs.Receive.{sends, delivers, receive_of}
use Rattle.link_receive.specs.declared.LinkState.{LinkState}
use Rattle.events.specs.declared.Event.{Event}

-- the length of the longest frame: all data is doubled, and three bytes follow
abbrev pub max_frame : ℕ
max_frame = 2051

pub record LinkBounds : Type 0 where
  pub frame : (d out : List ℕ) (n : ℕ) → (framing d out).given ≡ filled n → n ≤ max_frame
  pub byte : (s : LinkState) (e : Event) (buf : List ℕ) (b : ℕ) → (receive_of s e buf).reaction.response ≡ sends b → b ≤ 255
  pub message : (s : LinkState) (e : Event) (buf : List ℕ) (b n : ℕ) → (receive_of s e buf).reaction.response ≡ delivers b n → n ≤ max_data
