-- The calls of the bus: hanraquin_gate_write and hanraquin_gate_receive.
-- Assumes nothing.
use Rattle.std.specs.Prelude.{ℕ, ◌+◌, ◌*◌, Bool, true, false, ◌&&◌, List, [], ◌∷◌, eqb, leb, length, get_or}
use Rattle.base.specs.Choice.{pick}
use Rattle.gate_telegram.specs.Telegram.{telegram_writing}
use Rattle.gate_receive.specs.Receive.{Response, nothing, telegram, token, refuses, Outcome, receive_of}
use Rattle.gate_receive.specs.declared.GateState.{GateState}
use Rattle.gate_receive.specs.declared.GateState.TheVariants.{Rest, AtDestination, AtSource, AtLength, AtData, AtLowCheck, OthersSource, OthersLength, Dropping}
use Rattle.c_answer.specs.Event.{timer, event_at}
use Rattle.c_answer.specs.Answer.{done, refused, Written, written_by}

-- hanraquin_gate_write: as telegram_writing says
unfoldable pub write_call : ℕ → ℕ → List ℕ → List ℕ → Written
write_call d s bs out = written_by (telegram_writing d s bs out)

-- a state as seven numbers: phase, destination, source, number of data bytes, how many are stored or left to drop, running
-- check, high byte of the check; 0 for each that the phase does not have
abbrev pub state_words : GateState → List ℕ
state_words Rest = 0 ∷ 0 ∷ 0 ∷ 0 ∷ 0 ∷ 0 ∷ 0 ∷ []
state_words AtDestination = 1 ∷ 0 ∷ 0 ∷ 0 ∷ 0 ∷ 0 ∷ 0 ∷ []
state_words (AtSource d c) = 2 ∷ d ∷ 0 ∷ 0 ∷ 0 ∷ c ∷ 0 ∷ []
state_words (AtLength d s c) = 3 ∷ d ∷ s ∷ 0 ∷ 0 ∷ c ∷ 0 ∷ []
state_words (AtData d s n k c) = 4 ∷ d ∷ s ∷ n ∷ k ∷ c ∷ 0 ∷ []
state_words (AtLowCheck d s n c h) = 5 ∷ d ∷ s ∷ n ∷ 0 ∷ c ∷ h ∷ []
state_words OthersSource = 6 ∷ 0 ∷ 0 ∷ 0 ∷ 0 ∷ 0 ∷ 0 ∷ []
state_words OthersLength = 7 ∷ 0 ∷ 0 ∷ 0 ∷ 0 ∷ 0 ∷ 0 ∷ []
state_words (Dropping left) = 8 ∷ 0 ∷ 0 ∷ 0 ∷ left ∷ 0 ∷ 0 ∷ []

-- and the other way round, for the numbers that `is_state` takes
unfoldable pub state_of : ℕ → ℕ → ℕ → ℕ → ℕ → ℕ → ℕ → GateState
state_of p d s n k c h =
    pick (eqb p 0) Rest
    (pick (eqb p 1) AtDestination
    (pick (eqb p 2) (AtSource d c)
    (pick (eqb p 3) (AtLength d s c)
    (pick (eqb p 4) (AtData d s n k c)
    (pick (eqb p 5) (AtLowCheck d s n c h)
    (pick (eqb p 6) OthersSource (pick (eqb p 7) OthersLength (Dropping k))))))))

unfoldable pub state_at : List ℕ → GateState
state_at w = state_of (get_or w 0 0) (get_or w 1 0) (get_or w 2 0) (get_or w 3 0) (get_or w 4 0) (get_or w 5 0) (get_or w 6 0)

-- seven numbers, of which addresses, number of data bytes and high byte are bytes, and the check has 16 bits
unfoldable pub fits : List ℕ → Bool
fits w =
    eqb (length w) 7 && leb (get_or w 1 0) 255 && leb (get_or w 2 0) 255 && leb (get_or w 3 0) 255 && leb (get_or w 5 0) 65535
    && leb (get_or w 6 0) 255

-- whether two lists hold the same numbers
unfoldable pub same : List ℕ → List ℕ → Bool
same [] [] = true
same [] (b ∷ bs) = false
same (a ∷ rest) [] = false
same (a ∷ rest) (b ∷ bs) = eqb a b && same rest bs

-- numbers are a state where they fit, and are the numbers of the state that they stand for: so there is no phase above 8, and
-- a number that the phase does not have is 0
unfoldable pub is_state : List ℕ → Bool
is_state w = fits w && same w (state_words (state_at w))

-- the value tells what came: 0 nothing; 65536, 256 times the source and the number of data bytes for a telegram; 131072 and
-- the source for a token
abbrev pub of_response : Response → ℕ
of_response nothing = done 0
of_response (telegram s n) = done (65536 + 256 * s + n)
of_response (token s) = done (131072 + s)
of_response (refuses k) = refused k

-- the answer, and the state, the store and the output afterwards
pub record Received : Type 0 where
  pub answer : ℕ
  pub state : List ℕ
  pub store : List ℕ
  pub output : List ℕ

abbrev pub received : ℕ → List ℕ → List ℕ → List ℕ → Received
received r w st out = record { answer = r; state = w; store = st; output = out }

abbrev pub received_by : Outcome → Received
received_by o = received (of_response o.reaction.response) (state_words o.reaction.next) o.store o.output

-- hanraquin_gate_receive: 1 for a number that is no event, or numbers that are no state, and all stays; else one event
unfoldable pub receive_call : ℕ → List ℕ → List ℕ → ℕ → List ℕ → Received
receive_call own w st event out =
    pick (leb event timer && is_state w) (received_by (receive_of own (state_at w) st (event_at event) out)) (received (refused 1) w st out)
