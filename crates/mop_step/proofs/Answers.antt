-- What a destination leaves when it accepts a body: the registers written, and the body of the reply.
-- Assumes nothing.
use mathlib.Core.Path.{◌≡◌, sym, ◌∙◌, ap}
use mathlib.Core.Bool.{true}
use mathlib.Core.List.{List}
use Prim.Native.Nat.{ℕ, ◌+◌, ◌-◌, ◌*◌, ◌≤◌, ◌<◌}
use native.Mathlib.Omega.{arith}
use lib.ListN.{length, take, drop, length-drop}
use lib.Seq.{sets, length-sets}
use Rattle.base.specs.Places.{placed}
use Rattle.base.proofs.Places.{take_placed}
use Rattle.base.proofs.Words.{length_words}
use Rattle.mop_registers.specs.Rows.{place_of, table_length}
use Rattle.mop_registers.specs.Runs.{run_exists, reads}
use Rattle.mop_registers.proofs.Runs.{run_room, run_bound, length_reads, reads_run, length_writes, writes_run}
use Rattle.mop_header.specs.Header.{Head, header_length, telegram_of, as_reply}
use Rattle.mop_header.proofs.Lengths.{length_sent_back, length_as_reply}
use Rattle.mop_body.specs.Body.{read_start, read_count, write_start, write_count, values_of, reply_with}
use Rattle.mop_body.proofs.Bodies.{length_reply_with}
use Rattle.mop_step.specs.Body.{accepts, judged_body, after_writes, reply_body}
use Rattle.mop_step.specs.Step.{max_reply, answers, refuses, Step, step, replied, answering, StepCall, step_call, lending}
use Rattle.mop_step.proofs.Steps.{answer_short, answer_sent, no_place, in_place}
use Rattle.mop_step.proofs.Bodies.{Accepted, accepted}

pub length_reply : (body table : List ℕ) → length (reply_body body table) ≡ 3 + 2 * read_count body
unfolding reply_body
length_reply body table =
    length_reply_with body (reads table (read_start body) (read_count body))
    ∙ ap (λ (n : ℕ). 3 + 2 * n) (length_reads table (read_start body) (read_count body))

-- the lengths of what a destination leaves and sends
pub length_after : (body t : List ℕ) → length (after_writes body t) ≡ length t
unfolding after_writes
length_after body t = length_writes t (write_start body) (values_of body)

pub reply_bound : (body t : List ℕ) → judged_body body ≡ accepts → length (reply_body body t) ≤ max_reply
reply_bound body t e = omega (arith, length_reply body t, run_bound (read_start body) (read_count body) (accepted body e).readable)

pub length_replied : (h : Head) → header_length (replied h) ≡ header_length h
unfolding replied
length_replied h = length_sent_back (as_reply h) ∙ length_as_reply h

past_six : (n k : ℕ) → n ≡ 6 + 2 * k → n - 6 ≡ 2 * k
past_six n k e = omega arith

module _ (body : List ℕ) (a : Accepted body) where
  -- there are as many values as the write count says
  pub length_values : length (values_of body) ≡ write_count body
  length_values = length_words (write_count body) (drop 6 body) (length-drop 6 body ∙ past_six (length body) (write_count body) a.long)

  values_there : run_exists (write_start body) (length (values_of body)) ≡ true
  values_there = rw length_values a.there

  pub read_room : place_of (read_start body) + read_count body ≤ table_length
  read_room = run_room (read_start body) (read_count body) a.readable

  -- what is stored, and what is put into the buffer for the reply's body
  module _ (t : List ℕ) (long : length t ≡ table_length) {after : List ℕ} (stored : after ≡ sets t (place_of (write_start body)) (values_of body)) where
    pub all_written : after ≡ after_writes body t
    unfolding after_writes
    all_written = stored ∙ sym (writes_run t (write_start body) (values_of body) values_there)

    pub all_read : reply_with body (take (read_count body) (drop (place_of (read_start body)) after)) ≡ reply_body body (after_writes body t)
    unfolding reply_body
    all_read =
        let length_after : length after ≡ table_length = ap length stored ∙ length-sets t (place_of (write_start body)) (values_of body) ∙ long in
        ap (reply_with body) (sym (reads_run after (read_start body) (read_count body) a.readable length_after)) ∙ ap (reply_body body) all_written

-- the call: 11 for the room, 11 for the places of the buffer, or the answer
module _ (body : List ℕ) (a : Accepted body) (h : Head) (t reply : List ℕ) (room : ℕ) {sent : Head} (same : sent ≡ replied h) where
  abbrev answer : List ℕ
  answer = reply_body body (after_writes body t)

  abbrev carried : StepCall
  carried = lending (answering accepts h body t room) t reply

  pub carried_short : room < length (telegram_of sent answer) → step_call (refuses 11) t 0 reply ≡ carried
  unfolding lending
  carried_short l = sym (ap (λ (s : Step). lending s t reply) (answer_short h body t room (rw (← same) l)))

  module _ (enough : length (telegram_of sent answer) ≤ room) where
    answered : lending (step (answers sent answer) (after_writes body t)) t reply ≡ carried
    answered = rw same (sym (ap (λ (s : Step). lending s t reply) (answer_sent h body t room (rw (← same) enough))))

    pub carried_no_place : length reply < 3 + 2 * read_count body → step_call (refuses 11) t 0 reply ≡ carried
    carried_no_place l = sym (no_place sent answer (after_writes body t) t reply (rw (length_reply body (after_writes body t)) l)) ∙ answered

    pub carried_answered : {n : ℕ} {after buffer : List ℕ} → length t ≡ table_length → n ≡ 3 + 2 * read_count body → n ≤ length reply →
        after ≡ sets t (place_of (write_start body)) (values_of body) →
        buffer ≡ placed (reply_with body (take (read_count body) (drop (place_of (read_start body)) after))) reply →
        step_call (answers sent (take n buffer)) after n buffer ≡ carried
    carried_answered {n} {after} {buffer} long size fits stored put =
        let written : after ≡ after_writes body t = all_written body a t long stored in
        let filled : buffer ≡ placed answer reply = put ∙ ap (λ (l : List ℕ). placed l reply) (all_read body a t long stored) in
        let count : n ≡ length answer = size ∙ sym (length_reply body (after_writes body t)) in
        let bytes : take n buffer ≡ answer = rw (filled, count) (take_placed answer reply) in
        rw (bytes, written, filled, count) (sym (in_place sent answer (after_writes body t) t reply (omega (arith, count))) ∙ answered)
