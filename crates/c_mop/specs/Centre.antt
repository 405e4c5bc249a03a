-- The calls of the centre: hanraquin_write_request and hanraquin_read_reply.
-- Assumes nothing.
use Rattle.std.specs.Prelude.{ℕ, Bool, ◌&&◌, List, [], ◌∷◌, eqb, length}
use Rattle.base.specs.Choice.{pick}
use Rattle.mop_centre.specs.Request.{requesting, max_route}
use Rattle.mop_centre.specs.Reply.{Receipt, accepted, refuses, ReplyReading, reply_reading}
use Rattle.mop_centre.specs.Reply as centre
use Rattle.c_answer.specs.Answer.{done, not_mine, refused, Written, written_by}

-- hanraquin_write_request: as requesting says
unfoldable pub write_request_call : List ℕ → ℕ → ℕ → ℕ → List ℕ → List ℕ → Written
write_request_call route rStart rCount wStart values out = written_by (requesting route rStart rCount wStart values out)

-- the value is the number of the bytes that hold the values
abbrev pub of_receipt : Receipt → List ℕ → ℕ
of_receipt accepted bytes = done (length bytes)
of_receipt centre.not_mine bytes = not_mine
of_receipt (refuses k) bytes = refused k

-- the answer, and the route and the run afterwards; a run is start, count and the place of the first byte of the values
pub record ReplyTold : Type 0 where
  pub answer : ℕ
  pub route : List ℕ
  pub run : List ℕ

abbrev pub reply_told : ℕ → List ℕ → List ℕ → ReplyTold
reply_told r route run = record { answer = r; route = route; run = run }

-- what a reading tells; it has zeros unless the reply is accepted
abbrev pub reply_told_by : ReplyReading → ReplyTold
reply_told_by r =
    reply_told (of_receipt r.answer.receipt r.values) r.answer.route
    (r.answer.start ∷ r.answer.count ∷ r.answer.place ∷ [])

-- whether there are places for a route of 31 and for a run of three numbers
unfoldable pub has_reply_places : List ℕ → List ℕ → Bool
has_reply_places route run = eqb (length route) max_route && eqb (length run) 3

-- hanraquin_read_reply: 1 where these places are not there; else what is read
unfoldable pub read_reply_call : List ℕ → List ℕ → List ℕ → ReplyTold
read_reply_call telegram route run =
    pick (has_reply_places route run) (reply_told_by (reply_reading telegram)) (reply_told (refused 1) route run)
