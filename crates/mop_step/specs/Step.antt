-- What a station makes of a telegram whose header is in order: the step.
-- Assumes nothing.
use Rattle.std.specs.Prelude.{ℕ, zero, suc, ◌+◌, ◌*◌, ◌≤◌, ◌≡◌, Result, Ok, Err, Bool, not, ◌&&◌, List, eqb, ltb, length, take}
use Rattle.base.specs.Choice.{pick}
use Rattle.base.specs.Places.{placed}
use Rattle.refusal.specs.Numbers.{number_of}
use Rattle.refusal.specs.declared.Refusal.{Refusal}
use Rattle.mop_registers.specs.Rows.{table_length}
use Rattle.mop_registers.specs.Runs.{longest_run}
use Rattle.mop_block.specs.Block.{is_address, first, next}
use Rattle.mop_header.specs.Header.{Head, head_of, telegram_of, rolled_left, as_reply, sent_back}
use Rattle.mop_header.specs.declared.Function.{Function}
use Rattle.mop_header.specs.declared.Function.TheVariants.{Request, Reply}
use Rattle.mop_step.specs.Body.{Acceptance, accepts, rejects, judged_body, after_writes, reply_body}
use Rattle.mop_step.specs.declared.StationStep.{StationStep}
use Rattle.mop_step.specs.declared.StationStep.TheVariants.{Relayed, Answered, NotMine}

-- what a station makes of a telegram: it relays it with this header and its own body; it answers it with this header and this
-- body; "not mine"; or the number of a refusal
pub data Stepped : Type 0 where
  relays : Head → Stepped
  answers : Head → List ℕ → Stepped
  not_mine : Stepped
  refuses : ℕ → Stepped

-- that, and the table of registers afterwards
pub record Step : Type 0 where
  pub stepped : Stepped
  pub registers : List ℕ

abbrev pub step : Stepped → List ℕ → Step
step s t = record { stepped = s; registers = t }

-- a station: its own address, and a table of registers of the right length
unfoldable pub is_station : ℕ → List ℕ → Bool
is_station own t = is_address own && eqb (length t) table_length

-- From here on h is the header of the telegram, t the table of registers, and room the number of bytes that can be sent.

-- 11, and the table as it was, where there is no room for a telegram that is to be sent
unfoldable pub if_room : ℕ → List ℕ → List ℕ → Step → Step
if_room room telegram t s = pick (ltb room (length telegram)) (step (refuses 11) t) s

-- a relay rolls a request left; a reply it sends back. But for the mark of a reply all the rest of the header stays, the
-- control byte too; of the body only the length counts, and the registers are not looked at
unfoldable pub relayed : Function → Head → Head
relayed Request h = rolled_left h
relayed Reply h = sent_back h

unfoldable pub relaying : Head → List ℕ → List ℕ → ℕ → Step
relaying h body t room =
    let on = relayed h.function h in
    if_room room (telegram_of on body) t (step (relays on) t)

-- the header of a destination's reply
unfoldable pub replied : Head → Head
replied h = sent_back (as_reply h)

-- a destination carries out the body that it accepts: all the writes, then the reads
unfoldable pub answering : Acceptance → Head → List ℕ → List ℕ → ℕ → Step
answering (rejects k) h body t room = step (refuses k) t
answering accepts h body t room =
    let after = after_writes body t in
    let reply = reply_body body after in
    if_room room (telegram_of (replied h) reply) t (step (answers (replied h) reply) after)

-- a telegram for this station, by the entry behind its own: of a request it is the destination if that is 00, and else a relay;
-- a reply it only relays
unfoldable pub acting : Function → ℕ → Head → List ℕ → List ℕ → ℕ → Step
acting Request zero h body t room = answering (judged_body body) h body t room
acting Request (suc a) h body t room = relaying h body t room
acting Reply n h body t room = relaying h body t room

-- the step: 1; the first entry says whose the telegram is, and to all others it is "not mine"; 7 to 10 by `judged_body`, at the
-- destination; 11 by `if_room`
unfoldable pub stepping : ℕ → Head → List ℕ → List ℕ → ℕ → Step
stepping own h body t room =
    pick (not (is_station own t)) (step (refuses 1) t)
    (pick (eqb (first h.block) own) (acting h.function (next h.block) h body t room)
    (step not_mine t))

-- the call of it: the step; how many bytes the body of an answer has; and the buffer that was lent for it. Where nothing is
-- answered that number is 0, and the buffer is as it was
pub record StepCall : Type 0 where
  pub made : Step
  pub count : ℕ
  pub reply : List ℕ

abbrev pub step_call : Stepped → List ℕ → ℕ → List ℕ → StepCall
step_call s t n reply = record { made = step s t; count = n; reply = reply }

-- what the step makes of it, with a table afterwards, the table before, and the buffer: the body of an answer comes first in the
-- buffer; 11, and the table as it was, where that has fewer places
abbrev pub lending_by : Stepped → List ℕ → List ℕ → List ℕ → StepCall
lending_by (relays h) after t reply = step_call (relays h) after 0 reply
lending_by (answers h body) after t reply =
    pick (ltb (length reply) (length body)) (step_call (refuses 11) t 0 reply) (step_call (answers h body) after (length body) (placed body reply))
lending_by not_mine after t reply = step_call not_mine after 0 reply
lending_by (refuses k) after t reply = step_call (refuses k) after 0 reply

unfoldable pub lending : Step → List ℕ → List ℕ → StepCall
lending s t reply = lending_by s.stepped s.registers t reply

-- the most bytes that the body of an answer has: three, and the values of the longest run
abbrev pub max_reply : ℕ
max_reply = 3 + 2 * longest_run

-- in a buffer of so many places every answer has room: the call makes the step
abbrev pub RepliesFit : Type 0
RepliesFit =
    (own : ℕ) (h : Head) (body t : List ℕ) (room : ℕ) (reply : List ℕ) → max_reply ≤ length reply →
    (lending (stepping own h body t room) t reply).made ≡ stepping own h body t room

-- what the code gives: its headers stand beside the same slice, and the body of an answer is the first places of the buffer
abbrev pub step_call_of : Result StationStep Refusal → List ℕ → List ℕ → List ℕ → StepCall
step_call_of (Ok (Relayed h)) slice t reply = step_call (relays (head_of h slice)) t 0 reply
step_call_of (Ok (Answered h n)) slice t reply = step_call (answers (head_of h slice) (take n reply)) t n reply
step_call_of (Ok NotMine) slice t reply = step_call not_mine t 0 reply
step_call_of (Err r) slice t reply = step_call (refuses (number_of r)) t 0 reply
