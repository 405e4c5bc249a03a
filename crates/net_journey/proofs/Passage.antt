-- The journey of a telegram: out along the stations ahead, and home along the stations passed.
-- Assumes nothing.
use mathlib.Core.Path.{◌≡◌, refl, sym, ◌∙◌, ap, subst}
use mathlib.Core.Logic.{◌⊎◌, inl, inr}
use mathlib.Core.Bool.{Bool, true, false, false≢true}
use mathlib.Core.List.{List, [], ◌∷◌, ◌++◌, map, tail, reverse, reverse_aux}
use Prim.Native.Nat.{ℕ, suc, ◌+◌, ◌*◌, ◌≤◌}
use native.Mathlib.Omega.{arith}
use lib.ListN.{length}
use Rattle.mop_block.specs.Block.{first, roll_left, roll_right}
use Rattle.mop_block.specs.Zipper.{spread, Full, nil, cons, Once}
use Rattle.mop_header.specs.Header.{new_control}
use Rattle.mop_reader.specs.Reading.{max_telegram}
use Rattle.mop_reader.specs.ReadBack.{sized}
use Rattle.mop_header.specs.declared.Form.{Form}
use Rattle.mop_header.specs.declared.Function.TheVariants.{Request, Reply}
use Rattle.mop_step.specs.Body.{Acceptance, accepts, rejects, judged_body, after_writes, reply_body}
use Rattle.mop_header.proofs.Lengths.{header_room}
use Rattle.mop_step.proofs.Bodies.{rejects_accepts, rejected_number}
use Rattle.mop_step.proofs.Answers.{length_after, reply_bound}
use Rattle.net_journey.specs.Net.{Net, good_net, is_there, all_there, up_to_missing, table_at, with_table}
use Rattle.net_journey.specs.Journey.{at_zero, at_nobody, refused_with, Course, unheard, refusal, onward, call_output, Journey}
use Rattle.net_journey.specs.Terms.{shows, shown, all_ordinary, all_fine}
use Rattle.net_journey.specs.Demand3.{Unanswered}
use Rattle.net_journey.specs.Transmissions.{outward, relayed_block, homeward}
use Rattle.net_journey.proofs.Net.{table_same, all_none, all_there_with, good_with, good_table, there_parts, there_both, not_there, missing_first, missing_behind, not_all_behind}
use Rattle.net_journey.proofs.Ring.{last_of}
use Rattle.net_journey.proofs.Telegrams.{telegram_for, Faultless, still_fine, shown_as, reply_short}
use Rattle.net_journey.proofs.Steps.{stop_nobody, hop_request, hop_accepted, stop_rejected}
use Rattle.net_journey.proofs.Positions.{first_ahead, next_ahead, next_zero, same_ring, moved_on}
use Rattle.net_journey.proofs.Positions.{length_spread, faultless_at}
use Rattle.net_journey.proofs.Homeward.{Home, one_more, home}

-- the body of the reply, by the table that the destination then has
abbrev pub reply_of : List ℕ → List ℕ → Course → List ℕ
reply_of body ahead d = reply_body body (table_at (last_of ahead) d.after)

-- a journey out and home on which every station is there and the destination accepts the body
pub record Fulfilled (net : Net) (c : ℕ) (form : Form) (b body ahead back : List ℕ) (d : Course) : Type 0 where
  pub passage : map shown d.transmissions
      ≡ map (λ (a : ℕ). shows Request a body) ahead ++ map (λ (a : ℕ). shows Reply a (reply_of body ahead d)) (tail (reverse_aux ahead back) ++ (0 ∷ []))
  pub telegrams : d.transmissions
      ≡ map (λ (e : List ℕ). telegram_for Request c form e body) (outward (length ahead) b)
      ++ map (λ (e : List ℕ). telegram_for Reply new_control form e (reply_of body ahead d))
      (homeward (length (reverse_aux ahead back)) (relayed_block (length (tail ahead)) b))
  pub ending : d.ending ≡ at_zero
  pub written : table_at (last_of ahead) d.after ≡ after_writes body (table_at (last_of ahead) net)
  pub others : d.after ≡ with_table (last_of ahead) (table_at (last_of ahead) d.after) net

-- the only change of a net: a station of it, which accepts the body, has the values
pub record Carries (net : Net) (a : ℕ) (body : List ℕ) (after : Net) : Type 0 where
  pub there : is_there a net ≡ true
  pub accepted : judged_body body ≡ accepts
  pub is : after ≡ with_table a (after_writes body (table_at a net)) net

-- a request's journey, out along the stations ahead and home
pub record Out (net : Net) (c : ℕ) (form : Form) (b body ahead back : List ℕ) : Type 0 where
  pub course : Course
  pub journey : Journey net (telegram_for Request c form b body) course
  pub most : length course.transmissions ≤ 2 * length ahead + length back
  pub changes : (course.after ≡ net) ⊎ Carries net (last_of ahead) body course.after
  pub stopped : all_there ahead net ≡ true → (k : ℕ) → judged_body body ≡ rejects k → Unanswered net body ahead (refused_with k) course
  pub unreached : all_there ahead net ≡ false → Unanswered net body (up_to_missing ahead net) at_nobody course
  pub fine : all_fine course.transmissions ≡ true
  pub plain : all_ordinary course.answers ≡ true
  pub refused_keeps : (k : ℕ) → course.ending ≡ refused_with k → course.after ≡ net
  pub whole : all_there ahead net ≡ true → all_there back net ≡ true → judged_body body ≡ accepts → Fulfilled net c form b body ahead back course

-- the counts
most_alone : (l k : ℕ) → 1 ≤ 2 * suc l + k
most_alone l k = omega arith

most_end : (x l : ℕ) → x ≤ suc l → suc x ≤ 2 * 1 + l
most_end x l h = omega arith

most_on : (x l k : ℕ) → x ≤ 2 * suc l + suc k → suc x ≤ 2 * suc (suc l) + k
most_on x l k h = omega arith

one_on : (l z k n : ℕ) → suc (suc l) + suc z + k ≡ n → suc l + suc z + suc k ≡ n
one_on l z k n h = omega arith

same_ending : {v : Acceptance} {k j : ℕ} → v ≡ rejects k → v ≡ rejects j → refused_with k ≡ refused_with j
same_ending e f = cc

-- the stations in the order of the ring, and the block's length, stay; `out` is the output that each call is lent
module _ (out : List ℕ) (room : call_output ≤ length out) (form : Form) (z : ℕ) (ring : List ℕ) (n : ℕ) (once : Once ring) (size : sized form n ≡ true)
    (c : ℕ) (body : List ℕ) (net : Net) (fit : good_net net ≡ true) (short : header_room form n + length body ≤ max_telegram) where
  -- nobody shows it
  lost : (p : ℕ) (ahead back : List ℕ) → Faultless form (spread (suc p ∷ ahead) z (reverse back)) body → is_there (suc p) net ≡ false →
      Out net c form (spread (suc p ∷ ahead) z (reverse back)) body (suc p ∷ ahead) back
  lost p ahead back w e = record {
    course = unheard (telegram_for Request c form (spread (suc p ∷ ahead) z (reverse back)) body) net at_nobody;
    journey = stop_nobody net w p (first_ahead p ahead z (reverse back)) e Request c;
    most = most_alone (length ahead) (length back);
    changes = inl refl;
    fine = still_fine Request c w [] refl;
    plain = refl;
    refused_keeps = λ k e. refl;
    stopped = λ all k verdict. absurd (not_there (suc p) ahead net e all);
    unreached = λ some. record {
      passage = one_more (shown_as Request c w (first_ahead p ahead z (reverse back))) refl
          ∙ ap (map (λ (a : ℕ). shows Request a body)) (sym (missing_first (suc p) ahead net e));
      ending = refl;
      kept = refl;
    };
    whole = λ all passed verdict. absurd (not_there (suc p) ahead net e all);
  }

  -- the destination
  module _ (p : ℕ) {back : List ℕ} (g : Full back) (e : reverse back ++ (suc p ∷ []) ≡ ring) (count : 1 + suc z + length back ≡ n)
      (w : Faultless form (spread (suc p ∷ []) z (reverse back)) body) (there : is_there (suc p) net ≡ true) where
    mine : first (spread (suc p ∷ []) z (reverse back)) ≡ suc p
    mine = first_ahead p [] z (reverse back)

    nobody_missing : {A : Type 0} → all_there (suc p ∷ []) net ≡ false → A
    nobody_missing some = absurd (false≢true (sym some ∙ there_both (suc p) [] net there (all_none net)))

    rejected : (k : ℕ) → judged_body body ≡ rejects k → Out net c form (spread (suc p ∷ []) z (reverse back)) body (suc p ∷ []) back
    rejected k verdict = record {
      course = refusal (telegram_for Request c form (spread (suc p ∷ []) z (reverse back)) body) net k;
      journey = stop_rejected out room net fit w p mine there c k (next_zero (suc p) z (reverse back)) verdict;
      most = most_alone 0 (length back);
      changes = inl refl;
      fine = still_fine Request c w [] refl;
      plain = rw (rejected_number body k verdict);
      refused_keeps = λ k e. refl;
      stopped = λ all j other. record {
        passage = one_more (shown_as Request c w mine) refl;
        ending = same_ending verdict other;
        kept = refl;
      };
      unreached = nobody_missing;
      whole = λ all passed taken. absurd (rejects_accepts verdict taken);
    }

    accepted : judged_body body ≡ accepts → Out net c form (spread (suc p ∷ []) z (reverse back)) body (suc p ∷ []) back
    accepted verdict =
        let b = spread (suc p ∷ []) z (reverse back) in
        let tg = telegram_for Request c form b body in
        let t = after_writes body (table_at (suc p) net) in
        let reply = reply_body body t in
        let after = with_table (suc p) t net in
        let stays : good_net after ≡ true = good_with (suc p) t net fit (length_after body (table_at (suc p) net) ∙ good_table (suc p) net fit there) in
        let reply-fits : header_room form n + length reply ≤ max_telegram =
        subst (λ (k : ℕ). header_room form k + length reply ≤ max_telegram) (length_spread (suc p ∷ []) z back ∙ count)
        (reply_short w reply (reply_bound body t verdict)) in
        let r : Home after new_control form (roll_right b) reply back =
        home out room new_control form z reply after stays ring n once size reply-fits p nil g e count in
        let now : table_at (suc p) r.course.after ≡ t = ap (table_at (suc p)) r.kept ∙ table_same (suc p) t net there in
        record {
          course = onward tg (length (telegram_for Reply new_control form (roll_right b) reply)) r.course;
          journey = hop_accepted out room net fit w p mine there c (next_zero (suc p) z (reverse back)) verdict r.course r.journey;
          most = most_end (length r.course.transmissions) (length back) r.most;
          changes = inr (record { there = there; accepted = verdict; is = r.kept });
          stopped = λ all k other. absurd (rejects_accepts other verdict);
          unreached = nobody_missing;
          fine = still_fine Request c w r.course.transmissions r.fine;
          plain = r.plain;
          refused_keeps = λ k e. absurd (r.taken k e);
          whole = λ all passed taken.
              let x = r.whole (all_there_with back (suc p) t net ∙ passed) in
              record {
                passage = one_more (shown_as Request c w mine)
                    (x.passage ∙ ap (λ (u : List ℕ). map (λ (a : ℕ). shows Reply a (reply_body body u)) (back ++ (0 ∷ []))) (sym now));
                telegrams = one_more refl
                    (x.telegrams
                    ∙ ap (λ (u : List ℕ). map (λ (d : List ℕ). telegram_for Reply new_control form d (reply_body body u)) (homeward (suc (length back)) b))
                    (sym now));
                ending = x.ending;
                written = now;
                others = r.kept ∙ ap (λ (u : List ℕ). with_table (suc p) u net) (sym now);
              };
        }

    arrives : (v : Acceptance) → judged_body body ≡ v → Out net c form (spread (suc p ∷ []) z (reverse back)) body (suc p ∷ []) back
    arrives (rejects k) verdict = rejected k verdict
    arrives accepts verdict = accepted verdict

  -- a relay
  passes_on : (p q : ℕ) (ahead back : List ℕ) → Faultless form (spread (suc p ∷ suc q ∷ ahead) z (reverse back)) body → is_there (suc p) net ≡ true →
      Out net c form (roll_left (spread (suc p ∷ suc q ∷ ahead) z (reverse back))) body (suc q ∷ ahead) (suc p ∷ back) →
      Out net c form (spread (suc p ∷ suc q ∷ ahead) z (reverse back)) body (suc p ∷ suc q ∷ ahead) back
  passes_on p q ahead back w there r =
      let b = spread (suc p ∷ suc q ∷ ahead) z (reverse back) in
      let tg = telegram_for Request c form b body in
      let mine = first_ahead p (suc q ∷ ahead) z (reverse back) in
      record {
        course = onward tg (length (telegram_for Request c form (roll_left b) body)) r.course;
        journey = hop_request out room net fit w p mine there c (next_ahead q ahead z (reverse back) (suc p)) r.course r.journey;
        most = most_on (length r.course.transmissions) (length ahead) (length back) r.most;
        changes = r.changes;
        stopped = λ all k verdict.
            let x = r.stopped (there_parts (suc p) (suc q ∷ ahead) net all).1 k verdict in
            record { passage = one_more (shown_as Request c w mine) x.passage; ending = x.ending; kept = x.kept };
        unreached = λ some.
            let x = r.unreached (not_all_behind (suc p) (suc q ∷ ahead) net there some) in
            record {
              passage = one_more (shown_as Request c w mine) x.passage
                  ∙ ap (map (λ (a : ℕ). shows Request a body)) (sym (missing_behind (suc p) (suc q ∷ ahead) net there));
              ending = x.ending;
              kept = x.kept;
            };
        fine = still_fine Request c w r.course.transmissions r.fine;
        plain = r.plain;
        refused_keeps = r.refused_keeps;
        whole = λ all passed verdict.
            let parts = there_parts (suc p) (suc q ∷ ahead) net all in
            let x = r.whole parts.1 (there_both (suc p) back net parts.0 passed) verdict in
            record {
              passage = one_more (shown_as Request c w mine) x.passage;
              telegrams = one_more refl x.telegrams;
              ending = x.ending;
              written = x.written;
              others = x.others;
            };
      }

  hears_first : (p : ℕ) (ahead back : List ℕ) → Faultless form (spread (suc p ∷ ahead) z (reverse back)) body →
      (is_there (suc p) net ≡ true → Out net c form (spread (suc p ∷ ahead) z (reverse back)) body (suc p ∷ ahead) back) →
      (t : Bool) → is_there (suc p) net ≡ t → Out net c form (spread (suc p ∷ ahead) z (reverse back)) body (suc p ∷ ahead) back
  hears_first p ahead back w on true e = on e
  hears_first p ahead back w on false e = lost p ahead back w e

  pub requested : (p : ℕ) {ahead back : List ℕ} → Full ahead → Full back → reverse back ++ (suc p ∷ ahead) ≡ ring →
      suc (length ahead) + suc z + length back ≡ n → Out net c form (spread (suc p ∷ ahead) z (reverse back)) body (suc p ∷ ahead) back
  requested p {back = back} nil g e count =
      let w = faultless_at form z ring n once size body (cons nil) g e count short in
      hears_first p [] back w (λ there. arrives p g e count w there (judged_body body) refl) (is_there (suc p) net) refl
  requested p {back = back} (cons {a = q} {xs = ahead} f) g e count =
      let w = faultless_at form z ring n once size body (cons (cons f)) g e count short in
      let r = requested q f (cons g) (same_ring p (suc q ∷ ahead) back ∙ e) (one_on (length ahead) z (length back) n count) in
      hears_first p (suc q ∷ ahead) back w
      (λ there. passes_on p q ahead back w there
      (subst (λ (b : List ℕ). Out net c form b body (suc q ∷ ahead) (suc p ∷ back)) (sym (moved_on p (suc q ∷ ahead) back z)) r))
      (is_there (suc p) net) refl
