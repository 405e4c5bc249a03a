-- Bytes fed to the receiving half one after the other.
-- Assumes nothing.
use Rattle.std.specs.Prelude.{ℕ, List, [], ◌∷◌, ◌++◌}
use Rattle.link_receive.specs.Receive.{Response, receive_of}
use Rattle.events.specs.declared.Event.TheVariants.{Byte}
use Rattle.link_receive.specs.declared.LinkState.{LinkState}

-- the answers in order, and the state and the buffer at the end
pub record Fed : Type 0 where
  pub answers : List Response
  pub state : LinkState
  pub buffer : List ℕ

-- answers that came before
abbrev pub after : List Response → Fed → Fed
after rs f = record { answers = rs ++ f.answers; state = f.state; buffer = f.buffer }

-- each byte is an event at the state and the buffer that the one before it left
unfoldable pub feed : LinkState → List ℕ → List ℕ → Fed
feed s buf [] = record { answers = []; state = s; buffer = buf }
feed s buf (b ∷ bs) =
    let o = receive_of s (Byte b) buf in
    after (o.reaction.response ∷ []) (feed o.reaction.next o.buffer bs)
