-- From the centre's call to the centre's answer: a request written, its journey, and the reply read.
-- Assumes nothing.
use Rattle.std.specs.Prelude.{ℕ, ◌+◌, ◌-◌, ◌*◌, ◌≡◌, true, false, List, [], ◌∷◌, ◌++◌, map, length, take, replicate}
use Rattle.base.specs.Words.{bytes_of}
use Rattle.base.specs.Filling.{filled}
use Rattle.mop_registers.specs.Runs.{reads}
use Rattle.mop_header.specs.Header.{header_length}
use Rattle.mop_body.specs.Body.{request_body}
use Rattle.mop_step.specs.Body.{accepts, rejects, judged_runs}
use Rattle.mop_centre.specs.Request.{request_head, requesting}
use Rattle.mop_centre.specs.Reply.{Receipt, accepted, not_mine, refuses, ReplyReading, accepted_reading, reply_reading}
use Rattle.net_journey.specs.Net.{Net, good_net, all_there, up_to_missing, table_at, with_table}
use Rattle.net_journey.specs.Journey.{Ending, at_zero, at_nobody, refused_with, Course}
use Rattle.net_journey.specs.Terms.{Written, last_telegram}
use Rattle.net_journey.specs.Demand3.{Unanswered, TheJourney}
use Rattle.net_exchange.specs.ReadBack.{route_end, ReadsAs}

-- the verdicts of the centre's reader on the transmissions of a journey, if it is handed them all
abbrev pub verdicts : Course → List Receipt
verdicts c = map (λ (tg : List ℕ). (reply_reading tg).answer.receipt) c.transmissions

-- what the centre reads in the reply to a request: it accepts the telegram, and is given the route that it asked by, the run that
-- it asked for, and as values the registers of that run in a table
abbrev pub answer_from : List ℕ → List ℕ → ℕ → ℕ → ReplyReading
answer_from table route rStart rCount =
    accepted_reading route rStart rCount (bytes_of (reads table rStart rCount)) (header_length (request_head route) + 3)

-- the destination accepts the runs: the journey goes out and back
pub record Answered (net : Net) (route : List ℕ) (rStart rCount wStart : ℕ) (values : List ℕ) (c : Course) : Type 0 where
  pub count : length c.transmissions ≡ 2 * length route
  pub ending : c.ending ≡ at_zero
  -- the destination has the values that the centre handed in, and no other register of the net has changed
  pub written : Written wStart values (table_at (route_end route) net) (table_at (route_end route) c.after)
  pub others : c.after ≡ with_table (route_end route) (table_at (route_end route) c.after) net
  -- the last telegram answers the centre, with the registers of the destination as they then are
  pub answer : reply_reading (last_telegram c.transmissions) ≡ answer_from (table_at (route_end route) c.after) route rStart rCount
  -- and no other does: the requests are 3, and the replies to relays "not mine"
  pub heard : verdicts c ≡ replicate (length route) (refuses 3) ++ (replicate (length route - 1) not_mine ++ (accepted ∷ []))

-- no answer: a request to each of these stations is all that is sent, the centre refuses each with 3, and nothing has changed
pub record NoAnswer (net : Net) (body asked : List ℕ) (e : Ending) (c : Course) : Type 0 where
  pub unanswered : Unanswered net body asked e c
  pub heard : verdicts c ≡ replicate (length asked) (refuses 3)

-- what becomes of a telegram that the centre writes: it is read as what the centre asked for, and has one journey, of which demand 3
-- holds. If all stations of the route are there, it is answered, or rejected with k, by the verdict of the destination on the runs
-- that the centre handed in; if not, the last transmission is the request to the first that is missing
pub record Exchange (net : Net) (route : List ℕ) (rStart rCount wStart : ℕ) (values telegram : List ℕ) : Type 0 where
  pub request : ReadsAs route rStart rCount wStart values telegram
  pub journey : TheJourney net telegram
  pub answered : all_there route net ≡ true → judged_runs rStart rCount wStart (length values) values ≡ accepts →
      Answered net route rStart rCount wStart values journey.course
  pub rejected : all_there route net ≡ true → (k : ℕ) → judged_runs rStart rCount wStart (length values) values ≡ rejects k →
      NoAnswer net (request_body rStart rCount wStart values) route (refused_with k) journey.course
  pub unreached : all_there route net ≡ false → NoAnswer net (request_body rStart rCount wStart values) (up_to_missing route net) at_nobody journey.course

-- the theorem: so it is in every good net for every call of the request writer that is not refused
abbrev pub EveryExchange : Type 0
EveryExchange =
    (net : Net) (route : List ℕ) (rStart rCount wStart : ℕ) (values out : List ℕ) (n : ℕ) →
    good_net net ≡ true → (requesting route rStart rCount wStart values out).given ≡ filled n →
    Exchange net route rStart rCount wStart values (take n (requesting route rStart rCount wStart values out).output)
