-- From the centre's call to the centre's answer: the journey of a written request, and its last telegram read by the centre.
-- Assumes nothing.
use mathlib.Core.Path.{◌≡◌, refl, sym, ◌∙◌, ap, subst}
use mathlib.Core.Bool.{Bool, true}
use mathlib.Core.List.{List, [], ◌++◌, map}
use Prim.Native.Nat.{ℕ, suc, ◌+◌, ◌-◌, ◌*◌, ◌≤◌, ◌<◌}
use native.Mathlib.Omega.{arith}
use borrow.Author.Tests.{lt-ltb}
use lib.ListN.{length, take}
use Rattle.base.specs.Words.{bytes_of}
use Rattle.base.proofs.Choice.{pick_either}
use Rattle.mop_registers.specs.Runs.{reads}
use Rattle.mop_registers.proofs.Runs.{length_reads}
use Rattle.mop_block.specs.Block.{stations, first, roll_right}
use Rattle.mop_block.specs.Zipper.{spread, returned, Full, nil, cons}
use Rattle.mop_block.proofs.Rolls.{length_right}
use Rattle.mop_block.proofs.Stations.{good_length, stations_returned}
use Rattle.mop_block.proofs.Zipper.{returned_is_good, right_returns}
use Rattle.mop_header.specs.Header.{Head, head, header_length, telegram_of, body_of, mark_byte, remarked, new_control}
use Rattle.mop_reader.specs.Reading.{allowed, max_telegram}
use Rattle.mop_reader.specs.ReadBack.{sized, InOrder}
use Rattle.mop_header.specs.declared.Function.TheVariants.{Request, Reply}
use Rattle.mop_reader.specs.declared.Reader.TheVariants.{Station, Centre}
use Rattle.mop_header.proofs.Lengths.{length_remarked, header_room, length_header}
use Rattle.mop_reader.proofs.Sizes.{header_bound}
use Rattle.mop_header.proofs.Marks.{remarked_agrees, remarked_block}
use Rattle.mop_reader.proofs.Readers.{taken_good, centre_takes}
use Rattle.mop_reader.proofs.ReadBack.{body_behind, is_written}
use Rattle.mop_header.proofs.Writing.{length_telegram}
use Rattle.mop_body.specs.Body.{read_start, read_count, write_start, write_count, values_of, request_body}
use Rattle.mop_step.specs.Body.{accepts, judged_runs, judged_body, reply_body}
use Rattle.mop_step.proofs.Bodies.{right_length}
use Rattle.mop_step.proofs.Answers.{reply_bound}
use Rattle.mop_centre.specs.Request.{request_head, request_telegram, requesting}
use Rattle.mop_centre.specs.Reply.{ReplyReading, accepted_reading, reply_receipt, reply_reading}
use Rattle.mop_centre.proofs.Routes.{Route}
use Rattle.mop_centre.proofs.Requests.{wrote}
use Rattle.mop_centre.proofs.Replies.{receipt_read}
use Rattle.net_journey.specs.Net.{Net, good_net, is_there, all_there, up_to_missing, table_at, with_table}
use Rattle.net_journey.specs.Journey.{Ending, Course, Journey}
use Rattle.net_journey.specs.Terms.{m, there_and_back, Written, destination, last_telegram}
use Rattle.net_journey.specs.Demand3.{Accomplished, Unanswered}
use Rattle.net_journey.specs.Transmissions.{outward, relayed_block, homeward, request_on, reply_on, all_telegrams}
use Rattle.net_journey.proofs.Telegrams.{sized_with}
use Rattle.net_journey.proofs.Whole.{every_journey, byte_for_byte}
use Rattle.net_exchange.specs.ReadBack.{route_end, ReadsAs}
use Rattle.net_exchange.specs.Exchange.{verdicts, answer_from, Answered, NoAnswer, Exchange, EveryExchange}
use Rattle.net_exchange.proofs.Requests.{Shape, shape, route_full, route_once, request_reads_back}
use Rattle.net_exchange.proofs.Replies.{reply_reads_back}
use Rattle.net_exchange.proofs.Rolls.{last_reply}
use Rattle.net_exchange.proofs.Heard.{requests_heard, journey_heard}

-- a body with the parts that the centre handed in is judged by them
judged_parts : (body : List ℕ) {a b c : ℕ} {values : List ℕ} → read_start body ≡ a → read_count body ≡ b → write_start body ≡ c → write_count body ≡ length values →
    values_of body ≡ values → length body ≡ 6 + 2 * length values → judged_body body ≡ judged_runs a b c (length values) values
judged_parts body e f g k v long =
    right_length body (long ∙ ap (λ (n : ℕ). 6 + 2 * n) (sym k))
    ∙ (λ i. judged_runs (e i) (f i) (g i) (k i) (v i))

-- the header of a reply that comes back to the centre
module _ (route : List ℕ) (r : Route route) (s : Shape route) where
  abbrev home : Head
  home = remarked (head Reply new_control s.form (returned route s.gap))

  length_home : length (returned route s.gap) ≡ length (spread route s.gap [])
  length_home = ap length (sym (right_returns route s.gap)) ∙ length_right (spread route s.gap [])

  home_block : home.block ≡ returned route s.gap
  home_block = remarked_block (head Reply new_control s.form (returned route s.gap))

  home_first : first home.block ≡ 0
  unfolding first
  home_first = ap first home_block

  home_named : stations home.block ≡ route
  home_named = ap stations home_block ∙ stations_returned s.gap (route_full r)

  home_order : InOrder Centre home
  unfolding allowed remarked
  home_order =
      let b = returned route s.gap in
      let good = returned_is_good route s.gap (route_full r) (route_once r) in
      record {
        function = refl;
        size = sized_with s.form (mark_byte Reply (first b)) (length b) ∙ ap (sized s.form) length_home ∙ s.size;
        block = centre_takes b good ∙ lt-ltb 0 (length (stations b)) (rw (stations_returned s.gap (route_full r)) r.some);
        mark = remarked_agrees (head Reply new_control s.form b);
      }

  home_length : header_length home ≡ header_length (request_head route)
  home_length =
      length_remarked (head Reply new_control s.form (returned route s.gap))
      ∙ length_header (head Reply new_control s.form (returned route s.gap))
      ∙ ap (header_room s.form) length_home
      ∙ sym (length_header (head Request new_control s.form (spread route s.gap [])))
      ∙ ap header_length (sym s.is)

-- what the reader tells is its verdict
by_receipts : (c : Course) → verdicts c ≡ map reply_receipt c.transmissions
by_receipts c = λ i. map (λ (tg : List ℕ). receipt_read tg i) c.transmissions

-- the stations up to one that is missing are stations
full_missing : (net : Net) {l : List ℕ} → Full l → Full (up_to_missing l net)
unfolding up_to_missing
full_missing net nil = nil
full_missing net (cons {a = a} f) = cons (pick_either Full (is_there (suc a) net) (full_missing net f) nil)

-- the last transmission is a reply with that header
replies_home : (h : Head) (body reply : List ℕ) (k : ℕ) → m h ≡ suc k → 0 < length h.block →
    last_telegram (all_telegrams h body reply) ≡ reply_on h reply (roll_right h.block)
replies_home h body reply k e some =
    let requests : ℕ → List (List ℕ) = λ n. map (request_on h body) (outward n h.block) in
    let less : suc k - 1 ≡ k = omega arith in
    ap (λ (n : ℕ). last_telegram (requests n ++ map (reply_on h reply) (homeward n (relayed_block (n - 1) h.block)))) e
    ∙ ap (λ (n : ℕ). last_telegram (requests (suc k) ++ map (reply_on h reply) (homeward (suc k) (relayed_block n h.block)))) less
    ∙ last_reply (requests (suc k)) (reply_on h reply) k h.block some

-- the journey of a request of the centre, by the verdict on what the centre handed in
module _ (net : Net) (route : List ℕ) (rStart rCount wStart : ℕ) (values telegram : List ℕ) (r : Route route)
    (w : ReadsAs route rStart rCount wStart values telegram) (wrote-body : body_of (request_head route) telegram ≡ request_body rStart rCount wStart values)
    (fit : good_net net ≡ true) where
  abbrev h : Head
  h = request_head route

  abbrev body : List ℕ
  body = body_of h telegram

  judged : judged_body body ≡ judged_runs rStart rCount wStart (length values) values
  judged = judged_parts body w.read_start_lem w.read_count_lem w.write_start_lem w.write_count_lem w.values_back w.whole_body

  there_by : {t : Bool} → all_there route net ≡ t → all_there (stations h.block) net ≡ t
  there_by e = ap (λ (l : List ℕ). all_there l net) w.named ∙ e

  -- the last telegram, read by the centre
  module _ (c : Course) (j : Journey net telegram c) (there : all_there route net ≡ true) (verdict : judged_body body ≡ accepts) where
    abbrev table : List ℕ
    table = table_at (destination h) c.after

    last_telegram_lem : last_telegram c.transmissions ≡ telegram_of (home route r (shape route r)) (reply_body body table)
    last_telegram_lem =
        let s = shape route r in
        let reply = reply_body body table in
        let many : m h ≡ suc (length route - 1) = w.many ∙ omega (arith, r.some) in
        let block = ap (λ (g : Head). g.block) s.is in
        ap last_telegram (byte_for_byte net telegram c fit j h w.order w.fresh (there_by there) verdict)
        ∙ replies_home h body reply (length route - 1) many (good_length h.block (taken_good Station h.block (is_written Station telegram h w.order).order.block))
        ∙ (λ i. reply_on (s.is i) reply (roll_right (block i)))
        ∙ ap (reply_on (head Request new_control s.form (spread route s.gap [])) reply) (right_returns route s.gap)

    reply_short : length (telegram_of (home route r (shape route r)) (reply_body body table)) ≤ max_telegram
    reply_short =
        let g = home route r (shape route r) in
        omega (
          arith,
          length_telegram g (reply_body body table),
          header_bound Centre g (home_order route r (shape route r)),
          reply_bound body table verdict,
        )

    answer_read : reply_reading (last_telegram c.transmissions) ≡ answer_from (table_at (route_end route) c.after) route rStart rCount
    unfolding reply_body
    answer_read =
        let s = shape route r in
        ap reply_reading last_telegram_lem
        ∙ reply_reads_back (home route r s) body (reads table (read_start body) (read_count body)) (home_order route r s) (home_first route r s)
        (length_reads table (read_start body) (read_count body)) reply_short
        ∙ (λ i. accepted_reading (home_named route r s i) (w.read_start_lem i) (w.read_count_lem i)
        (bytes_of (reads (table_at (w.last i) c.after) (w.read_start_lem i) (w.read_count_lem i))) (home_length route r s i + 3))

    answered : Accomplished net h body c → Answered net route rStart rCount wStart values c
    answered a = record {
      count = a.count ∙ ap (λ (n : ℕ). 2 * n) w.many;
      ending = a.ending;
      written = subst (λ (d : ℕ). Written wStart values (table_at d net) (table_at d c.after)) w.last
          (subst (λ (v : List ℕ). Written wStart v (table_at (destination h) net) table) w.values_back
          (subst (λ (n : ℕ). Written n (values_of body) (table_at (destination h) net) table) w.write_start_lem a.written));
      others = subst (λ (d : ℕ). c.after ≡ with_table d (table_at d c.after) net) w.last a.others;
      answer = answer_read;
      heard = by_receipts c ∙ journey_heard body (reply_body body table) c.transmissions (route_full r)
          (a.passage ∙ ap (λ (l : List ℕ). there_and_back l body (reply_body body table)) w.named)
          (sym (receipt_read (last_telegram c.transmissions)) ∙ ap (λ (x : ReplyReading). x.answer.receipt) answer_read);
    }

  -- no answer: requests are all that is sent
  no_answer : {e : Ending} {c : Course} (to : List ℕ → List ℕ) → Full (to route) → Unanswered net body (to (stations h.block)) e c →
      NoAnswer net (request_body rStart rCount wStart values) (to route) e c
  no_answer {e} {c} to f d =
      let sent = request_body rStart rCount wStart values in
      let u : Unanswered net sent (to route) e c =
      subst (λ (l : List ℕ). Unanswered net l (to route) e c) wrote-body (subst (λ (l : List ℕ). Unanswered net body (to l) e c) w.named d) in
      record { unanswered = u; heard = by_receipts c ∙ requests_heard sent c.transmissions f u.passage }

  pub exchange : Exchange net route rStart rCount wStart values telegram
  exchange =
      let t = every_journey net telegram fit in
      record {
        request = w;
        journey = t;
        answered = λ there e.
            let v = judged ∙ e in
            answered t.course t.journey there v (t.demand3.accomplished h w.order w.fresh (there_by there) v);
        rejected = λ there k e.
            no_answer (λ l. l) (route_full r) (t.demand3.declined h w.order w.fresh (there_by there) k (judged ∙ e));
        unreached = λ some.
            no_answer (λ (l : List ℕ). up_to_missing l net) (full_missing net (route_full r))
            (t.demand3.unreached h w.order w.fresh (there_by some));
      }

pub every_exchange : EveryExchange
unfolding request_telegram
every_exchange net route rStart rCount wStart values out n fit e =
    let o = wrote route rStart rCount wStart values out n e in
    exchange net route rStart rCount wStart values (take n (requesting route rStart rCount wStart values out).output) o.good
    (request_reads_back route rStart rCount wStart values out n e)
    (ap (body_of (request_head route)) o.bytes ∙ body_behind (request_head route) (request_body rStart rCount wStart values)) fit
