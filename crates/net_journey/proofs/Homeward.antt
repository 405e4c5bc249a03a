-- The way of a reply home along the stations passed.
-- Assumes nothing.
use mathlib.Core.Path.{◌≡◌, refl, sym, ◌∙◌, ap, subst}
use mathlib.Core.Bool.{Bool, true, false}
use mathlib.Core.List.{List, [], ◌∷◌, ◌++◌, map, reverse}
use Prim.Native.Nat.{ℕ, suc, ◌+◌, ◌≤◌}
use native.Mathlib.Omega.{arith}
use lib.ListN.{length}
use Rattle.mop_block.specs.Block.{roll_right}
use Rattle.mop_block.specs.Zipper.{spread, returned, Full, nil, cons, Once}
use Rattle.mop_block.proofs.Zipper.{right_returns}
use Rattle.mop_header.specs.Header.{head, remarked}
use Rattle.mop_reader.specs.Reading.{max_telegram}
use Rattle.mop_reader.specs.ReadBack.{sized}
use Rattle.mop_header.specs.declared.Form.{Form}
use Rattle.mop_header.specs.declared.Function.TheVariants.{Reply}
use Rattle.mop_header.proofs.Lengths.{header_room}
use Rattle.net_journey.specs.Net.{Net, good_net, is_there, all_there}
use Rattle.net_journey.specs.Journey.{Ending, at_zero, at_nobody, refused_with, Course, unheard, onward, call_output, Journey}
use Rattle.net_journey.specs.Terms.{Shown, shows, shown, all_ordinary, all_fine}
use Rattle.net_journey.specs.Transmissions.{homeward}
use Rattle.net_journey.proofs.Net.{there_parts, not_there}
use Rattle.net_journey.proofs.Telegrams.{telegram_for, Faultless, reads_well, still_fine, shown_as, first_is}
use Rattle.net_journey.proofs.Steps.{ends_zero, stop_nobody, hop_reply}
use Rattle.net_journey.proofs.Positions.{first_ahead, first_returned, same_ring, moved_back, faultless_at, faultless_home}

-- the replies of a journey home on which every station is there
pub record Homecoming (c : ℕ) (form : Form) (b body back : List ℕ) (d : Course) : Type 0 where
  pub passage : map shown d.transmissions ≡ map (λ (a : ℕ). shows Reply a body) (back ++ (0 ∷ []))
  pub telegrams : d.transmissions ≡ map (λ (e : List ℕ). telegram_for Reply c form e body) (b ∷ homeward (length back) b)
  pub ending : d.ending ≡ at_zero

-- an ending that is no refusal
abbrev pub Unrefused : Ending → Type 0
Unrefused e = (k : ℕ) → e ≡ refused_with k → ⊥

pub zero_unrefused : Unrefused at_zero
zero_unrefused k e = let x : ◌≡◌ {A = ℕ} 0 1 = cc in omega arith

pub nobody_unrefused : Unrefused at_nobody
nobody_unrefused k e = let x : ◌≡◌ {A = ℕ} 0 1 = cc in omega arith

-- a reply's journey home; `back` has the stations passed, the last one first
pub record Home (net : Net) (c : ℕ) (form : Form) (b body back : List ℕ) : Type 0 where
  pub course : Course
  pub journey : Journey net (telegram_for Reply c form b body) course
  pub most : length course.transmissions ≤ suc (length back)
  pub kept : course.after ≡ net
  pub fine : all_fine course.transmissions ≡ true
  pub plain : all_ordinary course.answers ≡ true
  pub taken : Unrefused course.ending
  pub whole : all_there back net ≡ true → Homecoming c form b body back course

pub one_more : {A : Type 0} {x y : A} {xs ys : List A} → x ≡ y → xs ≡ ys → x ∷ xs ≡ y ∷ ys
one_more e f = λ i. e i ∷ f i

-- the counts
most_alone : (l : ℕ) → 1 ≤ suc l
most_alone l = omega arith

most_on : (x l : ℕ) → x ≤ suc l → suc x ≤ suc (suc l)
most_on x l h = omega arith

none_back : (l z n : ℕ) → suc l + suc z + 0 ≡ n → suc l + suc z ≡ n
none_back l z n h = omega arith

one_back : (l z k n : ℕ) → suc l + suc z + suc k ≡ n → suc (suc l) + suc z + k ≡ n
one_back l z k n h = omega arith

-- `out` is the output that each call is lent
module _ (out : List ℕ) (room : call_output ≤ length out) (c : ℕ) (form : Form) (z : ℕ) (body : List ℕ) (net : Net) (fit : good_net net ≡ true) where
  home_zero : (ahead : List ℕ) → Faultless form (returned ahead z) body → Home net c form (returned ahead z) body []
  home_zero ahead w =
      let b = returned ahead z in
      let tg = telegram_for Reply c form b body in
      let zero_first = first_returned ahead z in
      record {
        course = unheard tg net at_zero;
        journey = ends_zero net tg (remarked (head Reply c form b)) (reads_well Reply c w) (first_is Reply c w zero_first);
        most = most_alone 0;
        kept = refl;
        fine = still_fine Reply c w [] refl;
        plain = refl;
        taken = zero_unrefused;
        whole = λ all. record {
          passage = ap (λ (x : Shown). x ∷ []) (shown_as Reply c w zero_first);
          telegrams = refl;
          ending = refl;
        };
      }

  home_by : (s : ℕ) (ahead back : List ℕ) → Faultless form (spread (suc s ∷ ahead) z (reverse back)) body →
      Home net c form (roll_right (spread (suc s ∷ ahead) z (reverse back))) body back → (t : Bool) → is_there (suc s) net ≡ t →
      Home net c form (spread (suc s ∷ ahead) z (reverse back)) body (suc s ∷ back)
  home_by s ahead back w r false e =
      let tg = telegram_for Reply c form (spread (suc s ∷ ahead) z (reverse back)) body in
      record {
        course = unheard tg net at_nobody;
        journey = stop_nobody net w s (first_ahead s ahead z (reverse back)) e Reply c;
        most = most_alone (suc (length back));
        kept = refl;
        fine = still_fine Reply c w [] refl;
        plain = refl;
        taken = nobody_unrefused;
        whole = λ all. absurd (not_there (suc s) back net e all);
      }
  home_by s ahead back w r true e =
      let b = spread (suc s ∷ ahead) z (reverse back) in
      let tg = telegram_for Reply c form b body in
      let mine = first_ahead s ahead z (reverse back) in
      record {
        course = onward tg (length (telegram_for Reply c form (roll_right b) body)) r.course;
        journey = hop_reply out room net fit w s mine e c r.course r.journey;
        most = most_on (length r.course.transmissions) (length back) r.most;
        kept = r.kept;
        fine = still_fine Reply c w r.course.transmissions r.fine;
        plain = r.plain;
        taken = r.taken;
        whole = λ all.
            let x = r.whole (there_parts (suc s) back net all).1 in
            record {
              passage = one_more (shown_as Reply c w mine) x.passage;
              telegrams = one_more refl x.telegrams;
              ending = x.ending;
            };
      }

  module _ (ring : List ℕ) (n : ℕ) (once : Once ring) (size : sized form n ≡ true) (short : header_room form n + length body ≤ max_telegram) where
    pub home : (a : ℕ) {ahead back : List ℕ} → Full ahead → Full back → reverse back ++ (suc a ∷ ahead) ≡ ring →
        suc (length ahead) + suc z + length back ≡ n → Home net c form (roll_right (spread (suc a ∷ ahead) z (reverse back))) body back
    home a {ahead} f nil e count =
        subst (λ (b : List ℕ). Home net c form b body []) (sym (right_returns (suc a ∷ ahead) z))
        (home_zero (suc a ∷ ahead) (faultless_home form z ring n once size (suc a ∷ ahead) body (cons f) e (none_back (length ahead) z n count) short))
    home a {ahead} f (cons {a = s} {xs = back} g) e count =
        let e' = sym (same_ring s (suc a ∷ ahead) back) ∙ e in
        let count' = one_back (length ahead) z (length back) n count in
        subst (λ (b : List ℕ). Home net c form b body (suc s ∷ back)) (sym (moved_back s (suc a ∷ ahead) back z))
        (home_by s (suc a ∷ ahead) back (faultless_at form z ring n once size body (cons (cons f)) g e' count' short)
        (home s (cons f) g e' count') (is_there (suc s) net) refl)
