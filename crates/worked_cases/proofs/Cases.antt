-- The table of worked cases, computed.
-- Assumes nothing.
use mathlib.Core.Path.{◌≡◌, refl, sym, ◌∙◌, ap}
use mathlib.Core.Bool.{true, false}
use mathlib.Core.List.{List, ◌++◌, append-nil}
use borrow.Author.Tests.{leb-true}
use lib.Dec.{leb}
use lib.ListN.{length, get_or, take, replicate, length-replicate, drop_of_length-le}
use Prim.Native.Nat.{ℕ, ◌-◌, ◌≤◌}
use native.Mathlib.Nat.{suc-ne-zero}
use native.Mathlib.Omega.{arith}
use Rattle.base.specs.Places.{placed}
use Rattle.base.specs.Filling.{filled, fitted}
use Rattle.base.specs.Words.{words_of, bytes_of}
use Rattle.link_frame.specs.Frame.{sent, doubled, xor_over, checked, check_byte, frame_of, framing}
use Rattle.link_receive.specs.Receive.{against, after_store, byte_of, data_of, event_of, inside_of, no_room, receive_of, rest_of, store_of, waiting_of}
use Rattle.link_laws.specs.Feeding.{feed}
use Rattle.mop_registers.specs.Rows.{table_length, place_of, exists, may_write, takes, factory}
use Rattle.mop_registers.specs.Runs.{run_exists, run_may_write, run_takes, writes, reads}
use Rattle.mop_block.specs.Block.{is_address, has, distinct_addresses, stations, zero_ends, around, good_block, first, next, rolled, roll_left, roll_right}
use Rattle.mop_header.specs.Header.{Head, address_bytes, header_bytes, header_length, telegram_of, body_of, may_begin, is_mark, mark_byte, mark_is, with_mark, mark_agrees, remarked, rolled_left, rolled_right, as_reply, sent_back}
use Rattle.mop_reader.specs.Reading.{sound, allowed, function_at, good_for, judged, standard_reading, extended_reading, reading}
use Rattle.mop_header.specs.declared.Function.TheVariants.{Request}
use Rattle.mop_reader.specs.declared.Reader.TheVariants.{Station}
use Rattle.mop_body.specs.Body.{request_body, reply_with}
use Rattle.mop_step.specs.Body.{accepts, rejects, judged_runs, judged_body, after_writes, reply_body}
use Rattle.mop_step.specs.Step.{is_station, if_room, relayed, relaying, replied, answering, acting, stepping}
use Rattle.mop_station.specs.Station.{sending_by, hearing, handling}
use Rattle.mop_centre.specs.Request.{good_route, request_head, request_telegram, requesting}
use Rattle.mop_centre.specs.Reply.{judged_reply, receiving, route_places, read_out, unread, opened, opened_by, reply_reading}
use Rattle.net_journey.specs.Net.{right_tables, good_net, is_there, all_there, up_to_missing, table_at, with_table}
use Rattle.net_journey.specs.Journey.{Ending, at_nobody, refused_with, Course, named, addressee, handler}
use Rattle.net_journey.specs.Bounded.{calling, playing, most_transmissions}
use Rattle.net_journey.proofs.Whole.{every_journey, plays_the_journey}
use Rattle.net_exchange.specs.Exchange.{Exchange}
use Rattle.net_exchange.proofs.Exchange.{every_exchange}
use Rattle.net_hop.specs.Tables.{net_of, tables_of, tables_fit, set_up}
use Rattle.net_journey.specs.Terms.{before_zero, last_telegram}
use Rattle.net_dry_run.specs.DryRun.{run_output, played, leaves, padded, of_course, run_of, dry_run}
use Rattle.net_report.specs.Text.{hex_digit, hex_bytes, decimal, head_line, line_of, line, lines, sent_text, ending_text, closing, course_text, refused_text, outright_text}
use Rattle.net_report.specs.Report.{tells_course, report_output, reporting, told_of}
use Rattle.net_report.specs.Report as report
use Rattle.net_report.proofs.Journeys.{tells_the_journey}
use Rattle.net_hop.proofs.Tables.{good_net_lem}
use Rattle.net_dry_run.proofs.Outputs.{length_padded}
use Rattle.net_dry_run.proofs.Journeys.{runs_the_journey}
use Rattle.worked_cases.specs.Holding.{◌also◌, none}
use Rattle.worked_cases.specs.Cases.{factory_tables, factory_net, Travels, Tells, Promised, answered, unanswered, Asked, WorkedCases}
use Rattle.worked_cases.proofs.IsolationCases.{shows, at_destination, nobody_named, not_there, is_reply, alike_by, both_refused, unlike_at}
use Rattle.worked_cases.proofs.GateCases.{gate_cases_lem}

-- all of an output that a dry run fills
padded_alone : (tg : List ℕ) → length tg ≤ run_output → placed (padded tg) (replicate run_output 0) ≡ padded tg
unfolding placed
padded_alone tg h =
    ap (λ (l : List ℕ). padded tg ++ l)
    (drop_of_length-le (replicate run_output 0) {i = length (padded tg)} (omega (arith, length_padded tg h, length-replicate {A = ℕ} run_output 0)))
    ∙ append-nil (padded tg)

-- what is played over stations with factory values is the journey that a dry run plays and a report tells
module _ (addresses tg : List ℕ) (set : set_up addresses (factory_tables addresses) ≡ true) (h : Head) (well : reading Station tg ≡ sound h) where
  abbrev course : Course
  course = playing most_transmissions (factory_net addresses) tg

  good : good_net (factory_net addresses) ≡ true
  good = good_net_lem addresses (factory_tables addresses) set

  dry_course : (out : List ℕ) → run_output ≤ length out → dry_run tg addresses (factory_tables addresses) out ≡ of_course course out
  dry_course out room =
      let ran = runs_the_journey tg addresses (factory_tables addresses) out h set room well in
      ran.gives ∙ ap (λ (c : Course). of_course c out) (sym (ran.journey.only course (plays_the_journey (factory_net addresses) tg good)))

  told_course : (out : List ℕ) → report_output ≤ length out → reporting tg addresses (factory_tables addresses) out ≡ tells_course course out
  told_course out room =
      let told = tells_the_journey tg addresses (factory_tables addresses) out h set room well in
      told.tells_it ∙ ap (λ (c : Course). tells_course c out) (sym (told.journey.only course (plays_the_journey (factory_net addresses) tg good)))

  travels_by : (transmissions : List (List ℕ)) (e : Ending) (after : List ℕ) → course.transmissions ≡ transmissions → course.ending ≡ e →
      tables_of course.after ≡ after → leb (length (last_telegram transmissions)) run_output ≡ true → Travels addresses tg transmissions e after
  unfolding of_course
  travels_by transmissions e after all ending tables short = record {
    course = course;
    journey = plays_the_journey (factory_net addresses) tg good;
    all = all;
    ending = ending;
    tables = tables;
    dry =
        dry_course (replicate 1024 0) (omega (arith, length-replicate {A = ℕ} 1024 0))
        ∙ (λ i. leaves (played (length (all i)) (ending i) (length (last_telegram (all i)))) (tables i)
        (placed (padded (last_telegram (all i))) (replicate 1024 0)))
        ∙ ap (leaves (played (length transmissions) e (length (last_telegram transmissions))) after) (padded_alone (last_telegram transmissions) (leb-true (length (last_telegram transmissions)) run_output short));
  }

  tells_by : (text : List ℕ) → course_text course ≡ text → Tells addresses tg text
  tells_by text e = record {
    tables = tables_of course.after;
    told =
        told_course (replicate report_output 0) (omega (arith, length-replicate {A = ℕ} report_output 0))
        ∙ ap (λ (l : List ℕ). report.tells l (tables_of course.after) (replicate report_output 0)) e;
  }

outright_by : (addresses tg text : List ℕ) →
    reporting tg addresses (factory_tables addresses) (replicate report_output 0) ≡ report.tells text (factory_tables addresses) (replicate report_output 0) →
    Tells addresses tg text
outright_by addresses tg text e = record { tables = factory_tables addresses; told = e }

-- what demand 3 promises of it
promised_by : (addresses tg : List ℕ) (h : Head) → good_net (factory_net addresses) ≡ true → reading Station tg ≡ sound h → h.function ≡ Request →
    (first h.block ≡ 0 → ⊥) → get_or h.block (length h.block - 1) 0 ≡ 0 → all_there (stations h.block) (factory_net addresses) ≡ true →
    judged_body (body_of h tg) ≡ accepts → Promised addresses tg
promised_by addresses tg h net order request named last there verdict =
    let t = every_journey (factory_net addresses) tg net in
    record {
      head = h;
      order = order;
      journey = t;
      accomplished = t.demand3.accomplished h order (record { request = request; first_named = named; last_zero = last }) there verdict;
    }

-- what the exchange promises of a request of the centre
module _ (addresses route : List ℕ) (rStart rCount wStart : ℕ) (values : List ℕ) (n : ℕ) (net : good_net (factory_net addresses) ≡ true)
    (written : (requesting route rStart rCount wStart values (replicate 1024 0)).given ≡ filled n) where
  exchanged : Exchange (factory_net addresses) route rStart rCount wStart values (take n (requesting route rStart rCount wStart values (replicate 1024 0)).output)
  exchanged = every_exchange (factory_net addresses) route rStart rCount wStart values (replicate 1024 0) n net written

  answered_by : all_there route (factory_net addresses) ≡ true → judged_runs rStart rCount wStart (length values) values ≡ accepts →
      Asked addresses route rStart rCount wStart values n answered
  answered_by there verdict = record { written = written; exchange = exchanged; outcome = exchanged.answered there verdict }

  rejected_by : all_there route (factory_net addresses) ≡ true → (k : ℕ) → judged_runs rStart rCount wStart (length values) values ≡ rejects k →
      Asked addresses route rStart rCount wStart values n (unanswered route (refused_with k))
  rejected_by there k verdict = record { written = written; exchange = exchanged; outcome = exchanged.rejected there k verdict }

  unreached_by : all_there route (factory_net addresses) ≡ false →
      Asked addresses route rStart rCount wStart values n (unanswered (up_to_missing route (factory_net addresses)) at_nobody)
  unreached_by some = record { written = written; exchange = exchanged; outcome = exchanged.unreached some }

pub worked_cases : WorkedCases
unfolding placed fitted words_of bytes_of sent doubled xor_over checked check_byte frame_of framing against after_store byte_of data_of event_of inside_of no_room receive_of rest_of store_of waiting_of feed table_length place_of exists may_write takes factory run_exists run_may_write run_takes writes reads is_address has distinct_addresses stations zero_ends around good_block first next rolled roll_left roll_right address_bytes header_bytes header_length telegram_of body_of may_begin is_mark mark_byte mark_is with_mark mark_agrees remarked rolled_left rolled_right as_reply sent_back allowed function_at good_for judged standard_reading extended_reading reading judged_runs judged_body after_writes reply_with reply_body is_station if_room relayed relaying replied answering acting stepping sending_by hearing handling right_tables good_net is_there all_there up_to_missing table_at with_table named addressee handler calling playing net_of tables_of tables_fit set_up last_telegram padded of_course run_of dry_run before_zero hex_digit hex_bytes decimal head_line line_of line lines sent_text ending_text closing course_text refused_text outright_text told_of reporting request_body good_route request_head request_telegram requesting judged_reply receiving route_places read_out unread opened opened_by reply_reading
worked_cases =
    refl also refl also refl
    also travels_by _ _ refl _ refl _ _ _ refl refl refl refl
    also tells_by _ _ refl _ refl _ refl
    also travels_by _ _ refl _ refl _ _ _ refl refl refl refl
    also refl also refl also refl also refl also refl also refl also refl
    also refl also refl also refl also refl also refl also refl also refl also refl
    also refl also refl also refl also refl also refl also refl also refl
    also promised_by _ _ _ refl refl refl (suc-ne-zero _) refl refl refl
    also travels_by _ _ refl _ refl _ _ _ refl refl refl refl
    also promised_by _ _ _ refl refl refl (suc-ne-zero _) refl refl refl
    also tells_by _ _ refl _ refl _ refl
    also travels_by _ _ refl _ refl _ _ _ refl refl refl refl
    also tells_by _ _ refl _ refl _ refl
    also travels_by _ _ refl _ refl _ _ _ refl refl refl refl
    also outright_by _ _ _ refl
    also refl also refl also refl also refl also refl also refl also refl also refl also refl also refl
    also answered_by _ _ _ _ _ _ _ refl refl refl refl
    also answered_by _ _ _ _ _ _ _ refl refl refl refl
    also rejected_by _ _ _ _ _ _ _ refl refl refl 8 refl
    also rejected_by _ _ _ _ _ _ _ refl refl refl 10 refl
    also unreached_by _ _ _ _ _ _ _ refl refl refl
    also refl
    also refl also refl also refl also refl also refl also refl also refl also refl also refl
    also refl
    also refl also refl also refl also refl also refl also refl also refl also refl
    also refl also refl also refl also refl also refl also refl also refl
    also (alike_by _ _ _ _ refl _ refl (at_destination refl) (shows refl refl)
    also unlike_at _ _ _ _ _ _ _ _ 10 refl (shows refl refl) (shows refl refl) refl
    also alike_by _ _ _ _ refl _ refl (is_reply refl) (shows refl refl)
    also alike_by _ _ _ _ refl _ refl (not_there refl) (shows refl refl)
    also alike_by _ _ _ _ refl _ refl (at_destination refl) (shows refl refl)
    also alike_by _ _ _ _ refl _ refl (at_destination refl) (shows refl refl)
    also alike_by _ _ _ _ refl _ refl (nobody_named refl) (shows refl refl)
    also both_refused _ _ _ _ 5 refl refl refl
    also none)
    also gate_cases_lem
    also none
