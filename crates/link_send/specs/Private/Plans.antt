-- An event on its way through the code: what is planned, and what follows when its parts are
-- written or not. Only private contracts cite this.
-- Assumes nothing.
use Rattle.std.specs.Prelude.{ℕ, Bool, true, false, List, [], ◌∷◌}
use Rattle.base.specs.Filling.{Given, filled, refused}
use Rattle.link_send.specs.Send.{Part, opening, answer_byte, block, Turn, Taken, with, SendReaction, refusing, done}
use Rattle.link_send.specs.declared.Going.{Going}
use Rattle.link_send.specs.declared.Going.TheVariants.{Nothing, Opening, Answer, AnswerThenOpening, Block}
use Rattle.link_send.specs.declared.Plan.{Plan}
use Rattle.link_send.specs.declared.Sender.{Sender}

abbrev pub parts_of : Going → List Part
parts_of Nothing = []
parts_of Opening = opening ∷ []
parts_of (Answer b) = answer_byte b ∷ []
parts_of (AnswerThenOpening b) = answer_byte b ∷ opening ∷ []
parts_of Block = block ∷ []

-- an opening behind an answer, or nothing
abbrev pub behind : Bool → List Part
behind true = opening ∷ []
behind false = []

abbrev pub turn_by : Plan → Turn
turn_by p = record { parts = parts_of p.going; delivery = p.message; next = p.next }

abbrev pub taken_by : Plan → List ℕ → Taken
taken_by p buf = with (turn_by p) buf

-- the turn is done where its parts were written, and refused where they were not
abbrev pub finished : Given → Turn → Sender → SendReaction
finished (filled n) t s = done t n
finished (refused k) t s = refusing k s
