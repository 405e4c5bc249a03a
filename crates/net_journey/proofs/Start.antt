-- The journey of any telegram without a fault in its header, and what holds of it.
-- Assumes nothing.
use mathlib.Core.Path.{◌≡◌, refl, sym, ◌∙◌, ap, subst}
use mathlib.Core.Logic.{◌⊎◌, inl, inr}
use mathlib.Core.Bool.{Bool, true, false}
use mathlib.Core.List.{List, [], ◌∷◌, ◌++◌, reverse, reverse-reverse, append-nil}
use Prim.Native.Nat.{ℕ, zero, suc, ◌+◌, ◌*◌, ◌≤◌}
use native.Mathlib.Nat.{suc-ne-zero}
use native.Mathlib.Omega.{arith}
use lib.ListN.{length, length-append, length-reverse}
use Rattle.mop_block.specs.Block.{stations, first, roll_right}
use Rattle.mop_block.specs.Zipper.{spread, Full, nil, cons, Once, Zipper}
use Rattle.mop_block.proofs.Stations.{full_reverse, stations_spread}
use Rattle.mop_block.proofs.Zipper.{has_view}
use Rattle.mop_header.specs.Header.{Head, head, telegram_of, body_of, remarked}
use Rattle.mop_reader.specs.Reading.{sound, reading}
use Rattle.mop_header.specs.declared.Form.{Form}
use Rattle.mop_header.specs.declared.Function.{Function}
use Rattle.mop_header.specs.declared.Function.TheVariants.{Request, Reply}
use Rattle.mop_reader.specs.declared.Reader.TheVariants.{Station}
use Rattle.mop_header.proofs.Marks.{agrees_remarked}
use Rattle.mop_reader.proofs.ReadBack.{is_written}
use Rattle.mop_step.specs.Body.{accepts, rejects, judged_body}
use Rattle.net_journey.specs.Net.{Net, good_net, is_there, all_there, up_to_missing}
use Rattle.net_journey.specs.Journey.{Ending, at_zero, at_nobody, refused_with, Course, unheard, onward, call_output, Journey}
use Rattle.net_journey.specs.Terms.{m, Fresh, before_zeros, all_ordinary, all_fine}
use Rattle.net_journey.specs.Demand3.{Unanswered}
use Rattle.net_journey.proofs.Net.{all_none}
use Rattle.net_journey.proofs.Ring.{last_at, before_zeros_lem, none_passed}
use Rattle.net_journey.proofs.Telegrams.{telegram_for, Faultless, sound_faultless, reads_well, still_fine, first_is}
use Rattle.net_journey.proofs.Steps.{ends_zero, stop_nobody, hop_reply}
use Rattle.net_journey.proofs.Positions.{first_ahead, length_spread}
use Rattle.net_journey.proofs.Homeward.{home}
use Rattle.net_journey.proofs.Passage.{Fulfilled, Carries, requested}

-- what holds of the journey of a telegram with this header and body
pub record Ran (net : Net) (h : Head) (body : List ℕ) (d : Course) : Type 0 where
  pub most : 1 ≤ m h → length d.transmissions ≤ 2 * m h
  pub changes : (d.after ≡ net) ⊎ ((h.function ≡ Request) × Carries net (before_zeros h.block) body d.after)
  pub stopped : Fresh h → all_there (stations h.block) net ≡ true → (k : ℕ) → judged_body body ≡ rejects k →
      Unanswered net body (stations h.block) (refused_with k) d
  pub unreached : Fresh h → all_there (stations h.block) net ≡ false → Unanswered net body (up_to_missing (stations h.block) net) at_nobody d
  pub fine : all_fine d.transmissions ≡ true
  pub plain : all_ordinary d.answers ≡ true
  pub refused_keeps : (k : ℕ) → d.ending ≡ refused_with k → d.after ≡ net
  pub fresh : Fresh h → all_there (stations h.block) net ≡ true → judged_body body ≡ accepts →
      Fulfilled net h.control h.form h.block body (stations h.block) [] d

-- its journey
pub record Start (net : Net) (tg : List ℕ) (h : Head) (body : List ℕ) : Type 0 where
  pub course : Course
  pub journey : Journey net tg course
  pub ran : Ran net h body course

-- of the telegram of a header
abbrev StartOf : Net → Function → ℕ → Form → List ℕ → List ℕ → Type 0
StartOf net fn c form b body = Start net (telegram_for fn c form b body) (head fn c form b) body

-- the counts
most_alone : (k : ℕ) → 1 ≤ k → 1 ≤ 2 * k
most_alone k h = omega arith

reply_most : (x l k n : ℕ) → n ≡ suc l + k → x ≤ suc k → suc x ≤ 2 * n
reply_most x l k n e h = omega arith

request_most : (x l k n : ℕ) → n ≡ suc l + k → x ≤ 2 * suc l + k → x ≤ 2 * n
request_most x l k n e h = omega arith

named_count : (p : ℕ) {ahead back : List ℕ} (z : ℕ) → Full ahead → Full back →
    length (stations (spread (suc p ∷ ahead) z (reverse back))) ≡ suc (length ahead) + length back
named_count p {ahead} {back} z f g = ap length (stations_spread z (cons {a = p} f) (full_reverse g)) ∙ simp (length-append, length-reverse) (omega arith)

pub reply_request : Reply ≡ Request → ⊥
reply_request e = let x : ◌≡◌ {A = ℕ} 0 1 = cc in omega arith

-- one transmission that no station shows
ran_alone : (net : Net) (h : Head) (body tg : List ℕ) (e : Ending) → all_fine (tg ∷ []) ≡ true → (Fresh h → ⊥) → Ran net h body (unheard tg net e)
ran_alone net h body tg e well stale = record {
  most = λ some. most_alone (m h) some;
  changes = inl refl;
  fine = well;
  plain = refl;
  refused_keeps = λ k refusal. refl;
  stopped = λ fresh. absurd (stale fresh);
  unreached = λ fresh. absurd (stale fresh);
  fresh = λ fresh. absurd (stale fresh);
}

by_request : {A B : Type 0} → A ⊎ B → A ⊎ ((Request ≡ Request) × B)
by_request (inl x) = inl x
by_request (inr x) = inr (refl, x)

-- of a fresh request nothing is passed yet: the stations ahead are those that its block names
of_fresh : (holds : List ℕ → List ℕ → Type 0) (c : ℕ) (form : Form) (p z : ℕ) {ahead back : List ℕ} → Full ahead → Full back →
    Fresh (head Request c form (spread (suc p ∷ ahead) z (reverse back))) → holds (suc p ∷ ahead) back →
    holds (stations (spread (suc p ∷ ahead) z (reverse back))) []
of_fresh holds c form p z {ahead} f nil fresh x =
    subst (λ (l : List ℕ). holds l []) (sym (stations_spread z (cons {a = p} f) nil ∙ append-nil (suc p ∷ ahead))) x
of_fresh holds c form p z {ahead} f (cons {a = a} {xs = back} g) fresh x =
    let b = spread (suc p ∷ ahead) z (reverse (suc a ∷ back)) in
    let none : reverse (suc a ∷ back) ≡ [] = none_passed (suc p ∷ ahead) z (full_reverse (cons {a = a} g)) (sym (last_at b) ∙ fresh.last_zero) in
    absurd (suc-ne-zero _ (sym (length-reverse (suc a ∷ back)) ∙ ap length none))

module _ (out : List ℕ) (room : call_output ≤ length out) (net : Net) (fit : good_net net ≡ true) (c : ℕ) (form : Form) (body : List ℕ) where
  -- with a station first
  module _ (p z : ℕ) {ahead back : List ℕ} (f : Full ahead) (g : Full back) (once : Once (reverse back ++ (suc p ∷ ahead)))
      (w : Faultless form (spread (suc p ∷ ahead) z (reverse back)) body) where
    reply_start : (t : Bool) → is_there (suc p) net ≡ t → StartOf net Reply c form (spread (suc p ∷ ahead) z (reverse back)) body
    reply_start false e =
        let b = spread (suc p ∷ ahead) z (reverse back) in
        let tg = telegram_for Reply c form b body in
        record {
          course = unheard tg net at_nobody;
          journey = stop_nobody net w p (first_ahead p ahead z (reverse back)) e Reply c;
          ran = ran_alone net (head Reply c form b) body tg at_nobody (still_fine Reply c w [] refl) (λ fresh. reply_request fresh.request);
        }
    reply_start true e =
        let b = spread (suc p ∷ ahead) z (reverse back) in
        let tg = telegram_for Reply c form b body in
        let r = home out room c form z body net fit (reverse back ++ (suc p ∷ ahead)) (length b) once w.size w.short p f g refl
        (sym (length_spread (suc p ∷ ahead) z back)) in
        record {
          course = onward tg (length (telegram_for Reply c form (roll_right b) body)) r.course;
          journey = hop_reply out room net fit w p (first_ahead p ahead z (reverse back)) e c r.course r.journey;
          ran = record {
            most = λ some.
                let IsSent-back = length r.course.transmissions in
                reply_most IsSent-back (length ahead) (length back) (length (stations b)) (named_count p z f g) r.most;
            changes = inl r.kept;
            fine = still_fine Reply c w r.course.transmissions r.fine;
            plain = r.plain;
            refused_keeps = λ k e. r.kept;
            stopped = λ fresh. absurd (reply_request fresh.request);
            unreached = λ fresh. absurd (reply_request fresh.request);
            fresh = λ fresh. absurd (reply_request fresh.request);
          };
        }

    request_start : StartOf net Request c form (spread (suc p ∷ ahead) z (reverse back)) body
    request_start =
        let b = spread (suc p ∷ ahead) z (reverse back) in
        let o = requested out room form z (reverse back ++ (suc p ∷ ahead)) (length b) once w.size c body net fit w.short p f g refl
        (sym (length_spread (suc p ∷ ahead) z back)) in
        record {
          course = o.course;
          journey = o.journey;
          ran = record {
            most = λ some.
                request_most (length o.course.transmissions) (length ahead) (length back) (length (stations b)) (named_count p z f g) o.most;
            changes = by_request (subst (λ (a : ℕ). (o.course.after ≡ net) ⊎ Carries net a body o.course.after)
                (sym (before_zeros_lem p z f (full_reverse g))) o.changes);
            stopped = λ fresh.
                of_fresh
                (λ (l passed : List ℕ). all_there l net ≡ true → (k : ℕ) → judged_body body ≡ rejects k → Unanswered net body l (refused_with k) o.course)
                c form p z f g fresh o.stopped;
            unreached = λ fresh.
                of_fresh (λ (l passed : List ℕ). all_there l net ≡ false → Unanswered net body (up_to_missing l net) at_nobody o.course) c form p z f g fresh
                o.unreached;
            fine = o.fine;
            plain = o.plain;
            refused_keeps = o.refused_keeps;
            fresh = λ fresh all.
                of_fresh
                (λ (l passed : List ℕ). all_there l net ≡ true → all_there passed net ≡ true → judged_body body ≡ accepts →
                Fulfilled net c form b body l passed o.course)
                c form p z f g fresh o.whole all (all_none net);
          };
        }

    station_first : (fn : Function) → StartOf net fn c form (spread (suc p ∷ ahead) z (reverse back)) body
    station_first Request = request_start
    station_first Reply = reply_start (is_there (suc p) net) refl

  module _ (fn : Function) (b : List ℕ) (w : Faultless form b body) where
    at_station : Zipper b → StartOf net fn c form b body
    at_station v =
        let ahead = suc v.here ∷ v.ahead in
        let passed : reverse (reverse v.passed) ≡ v.passed = reverse-reverse v.passed in
        let is : b ≡ spread ahead v.gap (reverse (reverse v.passed)) = v.is ∙ ap (λ (l : List ℕ). spread ahead v.gap l) (sym passed) in
        subst (λ (l : List ℕ). StartOf net fn c form l body) (sym is)
        (station_first v.here v.gap v.full_ahead (full_reverse v.full_passed)
        (subst (λ (l : List ℕ). Once (l ++ ahead)) (sym passed) v.once)
        (subst (λ (l : List ℕ). Faultless form l body) is w) fn)

    at_zero_lem : first b ≡ 0 → StartOf net fn c form b body
    at_zero_lem e =
        let tg = telegram_for fn c form b body in
        record {
          course = unheard tg net at_zero;
          journey = ends_zero net tg (remarked (head fn c form b)) (reads_well fn c w) (first_is fn c w e);
          ran = ran_alone net (head fn c form b) body tg at_zero (still_fine fn c w [] refl) (λ fresh. fresh.first_named e);
        }

    by_first : (n : ℕ) → first b ≡ n → StartOf net fn c form b body
    by_first zero e = at_zero_lem e
    by_first (suc n) e = at_station (has_view b w.good (λ z. suc-ne-zero _ (sym e ∙ z)))

pub start : (out : List ℕ) → call_output ≤ length out → (net : Net) → good_net net ≡ true → (tg : List ℕ) (h : Head) → reading Station tg ≡ sound h →
    Start net tg h (body_of h tg)
start out room net fit tg h order =
    let body = body_of h tg in
    let well = is_written Station tg h order in
    let same : telegram_of (remarked h) body ≡ tg = ap (λ (g : Head). telegram_of g body) (agrees_remarked h well.order.mark) ∙ well.whole in
    subst (λ (x : List ℕ). Start net x h body) same
    (by_first out room net fit h.control h.form body h.function h.block (sound_faultless tg h order) (first h.block) refl)
