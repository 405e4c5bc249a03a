-- Bytes fed to the receiver one after the other.
-- Assumes nothing.
use Rattle.std.specs.Prelude.{ℕ, List, [], ◌∷◌, ◌++◌}
use Rattle.gate_receive.specs.Receive.{Response, receive_of}
use Rattle.events.specs.declared.Event.TheVariants.{Byte}
use Rattle.gate_receive.specs.declared.GateState.{GateState}

-- the answers in order, and the state, the store and the output at the end
pub record Fed : Type 0 where
  pub answers : List Response
  pub state : GateState
  pub store : List ℕ
  pub output : List ℕ

-- answers that came before
abbrev pub after : List Response → Fed → Fed
after rs f = record { answers = rs ++ f.answers; state = f.state; store = f.store; output = f.output }

-- each byte is an event at the state, the store and the output that the one before it left, with one own address throughout
unfoldable pub feed : ℕ → GateState → List ℕ → List ℕ → List ℕ → Fed
feed own s st out [] = record { answers = []; state = s; store = st; output = out }
feed own s st out (b ∷ bs) =
    let o = receive_of own s st (Byte b) out in
    after (o.reaction.response ∷ []) (feed own o.reaction.next o.store o.output bs)
