-- A dry run has at most 62 transmissions, the last is no longer than 1,024 bytes, and a refusal that ends it has a number from 7 to
-- 10.
-- Assumes nothing.
use mathlib.Core.Path.{◌≡◌, refl, sym, subst}
use mathlib.Core.Bool.{Bool, true, false, ◌&&◌, and-eq-true_iff, false≢true}
use mathlib.Core.List.{List, [], ◌∷◌, ◌++◌}
use Prim.Native.Nat.{ℕ, ◌≤◌}
use native.Mathlib.Omega.{arith}
use borrow.Author.Tests.{eq-eqb, ne_eqb, leb-true, ltb-false}
use lib.Dec.{leb, ltb}
use lib.ListN.{length}
use Rattle.mop_header.specs.Header.{Head}
use Rattle.mop_reader.specs.Reading.{Reading, sound, faulty, max_telegram, too_long, reading}
use Rattle.mop_reader.specs.declared.Reader.TheVariants.{Station}
use Rattle.mop_reader.proofs.ReadBack.{is_written}
use Rattle.mop_station.specs.Station.{Handled, refuses}
use Rattle.net_journey.specs.Journey.{Ending, refused_with}
use Rattle.net_journey.specs.Terms.{last_telegram, is_fine, all_fine, ordinary, all_ordinary}
use Rattle.net_journey.specs.Bounded.{most_transmissions}
use Rattle.net_journey.proofs.Whole.{at_most_62}
use Rattle.net_hop.specs.Tables.{net_of, set_up}
use Rattle.net_dry_run.specs.DryRun.{Outcome, played, outright, DryRun, run_output, of_course, run_of, dry_run, RanTheJourney}
use Rattle.net_hop.proofs.Tables.{good_net_lem}
use Rattle.net_dry_run.proofs.Journeys.{runs_the_journey}
use Rattle.c_answer.specs.Answer.{refused}
use Rattle.c_net.specs.Net.{ran, ran_by, dry_run_call}

-- an outcome whose numbers fit: no more transmissions than a journey can have, and the last telegram in the places of the output
abbrev pub SmallRun : Outcome → Type 0
SmallRun (played count e n) = (count ≤ most_transmissions) × (n ≤ run_output)
SmallRun (outright k) = Unit

-- the last of telegrams without a fault in their headers is short
fine_short : (tg : List ℕ) (r : Reading) → reading Station tg ≡ r → is_fine r ≡ true → length tg ≤ max_telegram
fine_short tg (sound h) e f = (is_written Station tg h e).short
fine_short tg (faulty k) e f = absurd (false≢true f)

last_short : (l : List (List ℕ)) → all_fine l ≡ true → length (last_telegram l) ≤ max_telegram
unfolding last_telegram
last_short [] e = omega arith
last_short (tg ∷ []) e = fine_short tg (reading Station tg) refl ((and-eq-true_iff (is_fine (reading Station tg)) true).0 e).0
last_short (tg ∷ next ∷ rest) e = last_short (next ∷ rest) ((and-eq-true_iff (is_fine (reading Station tg)) (all_fine (next ∷ rest))).0 e).1

-- the last of ordinary answers, where it is a refusal
last_ordinary : (k : ℕ) (earlier : List Handled) → all_ordinary (earlier ++ (refuses k ∷ [])) ≡ true → (7 ≤ k) × (k ≤ 10)
last_ordinary k [] e =
    let p = (and-eq-true_iff (leb 7 k) (leb k 10)).0 ((and-eq-true_iff (leb 7 k && leb k 10) true).0 e).0 in
    (leb-true 7 k p.0, leb-true k 10 p.1)
last_ordinary k (a ∷ earlier) e = last_ordinary k earlier ((and-eq-true_iff (ordinary a) (all_ordinary (earlier ++ (refuses k ∷ [])))).0 e).1

same_ending : {count₁ count n₁ n : ℕ} (e₁ e : Ending) → played count₁ e₁ n₁ ≡ played count e n → e₁ ≡ e
same_ending e₁ e is = cc

module _ (tg addresses tables out : List ℕ) where
  -- what holds of every refusal, and of the journey of a telegram that reads well, holds of the outcome
  module _ (P : Outcome → Type 0) (refusal : (k : ℕ) → P (outright k))
      (journey : (h : Head) → reading Station tg ≡ sound h → set_up addresses tables ≡ true → (r : RanTheJourney tg addresses tables out) →
      P (of_course r.journey.course out).outcome) where
    by_tests : (s l o : Bool) (r : Reading) → set_up addresses tables ≡ s → too_long tg ≡ l → ltb (length out) run_output ≡ o →
        reading Station tg ≡ r → P (dry_run tg addresses tables out).outcome
    unfolding dry_run run_of
    by_tests false l o r es el eo er = rw es (refusal 1)
    by_tests true true o r es el eo er = rw (es, el) (refusal 12)
    by_tests true false true r es el eo er = rw (es, el, eo) (refusal 11)
    by_tests true false false (faulty k) es el eo er = rw (es, el, eo, er) (refusal k)
    by_tests true false false (sound h) es el eo er =
        let ran = runs_the_journey tg addresses tables out h es (ltb-false (length out) run_output eo) er in
        subst (λ (d : DryRun). P d.outcome) (sym ran.gives) (journey h er es ran)

    outcome_by : P (dry_run tg addresses tables out).outcome
    outcome_by = by_tests (set_up addresses tables) (too_long tg) (ltb (length out) run_output) (reading Station tg) refl refl refl refl

  small_journey : (h : Head) → reading Station tg ≡ sound h → set_up addresses tables ≡ true → (r : RanTheJourney tg addresses tables out) →
      SmallRun (of_course r.journey.course out).outcome
  unfolding of_course
  small_journey h read set r =
      let c = r.journey.course in (
        at_most_62 (net_of addresses tables) tg c (good_net_lem addresses tables set) r.journey.journey,
        last_short c.transmissions (r.journey.demand3.all_fine_lem h read),
      )

  pub small_run : SmallRun (dry_run tg addresses tables out).outcome
  small_run = outcome_by SmallRun (λ k. tt) small_journey

  -- where a run ends with a refusal, a called station gave it
  abbrev Ended : Outcome → Type 0
  Ended o = (count k n : ℕ) → o ≡ played count (refused_with k) n → (7 ≤ k) × (k ≤ 10)

  not_ended : (k : ℕ) → Ended (outright k)
  not_ended k count k₁ n e = cc

  ended_journey : (h : Head) → reading Station tg ≡ sound h → set_up addresses tables ≡ true → (r : RanTheJourney tg addresses tables out) →
      Ended (of_course r.journey.course out).outcome
  unfolding of_course
  ended_journey h read set r count k n e =
      let d = r.journey.demand3 in
      let by = d.refused_by h read k (same_ending r.journey.course.ending (refused_with k) e) in
      last_ordinary k by.0 (subst (λ (l : List Handled). all_ordinary l ≡ true) by.1 (d.all_ordinary_lem h read))

  pub refusal_told : Ended (dry_run tg addresses tables out).outcome
  refusal_told = outcome_by Ended not_ended ended_journey

-- the call, by the length of the result
module _ (tg addresses tables out result : List ℕ) where
  pub bad_result : (length result ≡ 3 → ⊥) → dry_run_call tg addresses tables out result ≡ ran (refused 1) tables out result
  unfolding dry_run_call
  bad_result h = rw (ne_eqb (length result) 3 h)

  pub good_result : length result ≡ 3 → dry_run_call tg addresses tables out result ≡ ran_by (dry_run tg addresses tables out) result
  unfolding dry_run_call
  good_result h = rw (eq-eqb (length result) 3 h)
