-- Two dry runs over nets that agree at the destination are the same, and so are the answers of two calls.
-- Assumes nothing.
use mathlib.Core.Path.{◌≡◌, refl, sym, ◌∙◌, ap, subst, subst₂}
use mathlib.Core.Bool.{Bool, true, false, false≢true, ◌||◌}
use mathlib.Core.List.{List, [], ◌∷◌, ◌++◌}
use Prim.Native.Nat.{ℕ, ◌-◌, ◌≤◌}
use native.Mathlib.Omega.{arith}
use borrow.Author.Tests.{ltb-true, ltb-false}
use lib.Dec.{eqb, ltb}
use lib.ListN.{length, drop, replicate, length-append, length-replicate}
use lib.Seq.{take-append-le}
use Rattle.base.specs.Choice.{pick}
use Rattle.base.specs.Places.{placed}
use Rattle.refusal.proofs.Numbers.{numbers_differ}
use Rattle.refusal.specs.declared.Refusal.{Refusal}
use Rattle.std.specs.Prelude.{Result, Ok, Err}
use Rattle.mop_block.specs.Block.{has, first}
use Rattle.mop_header.specs.Header.{Head}
use Rattle.mop_reader.specs.Reading.{Reading, sound, faulty, max_telegram, reading}
use Rattle.mop_reader.specs.declared.Reader.TheVariants.{Station}
use Rattle.net_journey.specs.Net.{table_at}
use Rattle.net_journey.specs.Journey.{Course}
use Rattle.net_journey.specs.Terms.{before_zeros, last_telegram}
use Rattle.net_journey.proofs.Ring.{none_named}
use Rattle.net_journey.proofs.Start.{reply_request}
use Rattle.net_hop.specs.Tables.{net_of, tables_fit, set_up}
use Rattle.net_hop.specs.Hop.{ending_of}
use Rattle.net_hop.specs.declared.JourneyEnd.{JourneyEnd}
use Rattle.net_hop.specs.declared.JourneyEnd.TheVariants as end
use Rattle.net_hop.proofs.Tables.{addresses_of_net, good_net_lem}
use Rattle.net_dry_run.specs.DryRun.{Outcome, played, outright, outcome_of, DryRun, leaves, run_output, padded, of_course, run_of, dry_run}
use Rattle.net_dry_run.specs.declared.Played.{Played}
use Rattle.net_dry_run.proofs.DryRuns.{not_set_up, too_long, output_short, run_by}
use Rattle.net_dry_run.proofs.Journeys.{runs_the_journey}
use Rattle.net_isolation.specs.Journeys.{SameCourse}
use Rattle.net_isolation.specs.Isolated.{IsPlayed, SameFirst, SameFilled, SameRun, SameLengths, Isolated, RefusedIsolated, NobodyIsolated, MissingIsolated, RepliesIsolated, CallsSame, CallsIsolated}
use Rattle.net_isolation.proofs.Journeys.{Asks, same_header, of_header, both_journeys}

-- a telegram and 0 behind it have the places that are filled
padded_long : (tg : List ℕ) → run_output ≤ length (padded tg)
unfolding padded
padded_long tg = omega (arith, length-append tg (replicate (run_output - length tg) 0), length-replicate {A = ℕ} (run_output - length tg) 0)

-- whatever the output held
same_own : (n : ℕ) (new old other : List ℕ) → n ≤ length new → SameFirst n (new ++ old) (new ++ other)
same_own n new old other h = record { same = take-append-le n new old h ∙ sym (take-append-le n new other h) }

same_filled : (last out out' : List ℕ) → SameFilled (placed (padded last) out) (placed (padded last) out')
unfolding placed
same_filled last out out' =
    same_own _ (padded last) (drop (length (padded last)) out) (drop (length (padded last)) out') (omega (arith, padded_long last))

-- a station that is not there has no table
module _ (a : ℕ) where
  table_behind : (addresses t u : List ℕ) (here : Bool) → (here || has a addresses) ≡ false → (has a addresses ≡ false → u ≡ []) → pick here t u ≡ []
  table_behind addresses t u true e more = absurd (false≢true (sym e))
  table_behind addresses t u false e more = more e

  no_table : (addresses tables : List ℕ) → has a addresses ≡ false → table_at a (net_of addresses tables) ≡ []
  unfolding has net_of table_at
  no_table [] tables e = refl
  no_table (x ∷ addresses) tables e = table_behind addresses _ _ (eqb a x) e (no_table addresses _)

-- what is refused outright is not played
not_played : {o : Outcome} {k : ℕ} → o ≡ outright k → IsPlayed o → ⊥
not_played e p = subst IsPlayed e p

module _ (tg addresses tables tables' out out' : List ℕ) (lengths : SameLengths tables tables' out out') where
  abbrev one : DryRun
  one = dry_run tg addresses tables out

  abbrev two : DryRun
  two = dry_run tg addresses tables' out'

  -- both are refused outright
  same_outright : (k : ℕ) → one ≡ leaves (outright k) tables out → two ≡ leaves (outright k) tables' out' → SameRun one two
  same_outright k e f =
      let is = ap (λ (r : DryRun). r.outcome) e in
      record { outcome = is ∙ sym (ap (λ (r : DryRun). r.outcome) f); filled = λ p. absurd (not_played is p) }

  -- both are played, with the same course
  same_course : (c d : Course) → SameCourse c d → SameRun (of_course c out) (of_course d out')
  unfolding of_course
  same_course c d same = record {
    outcome = λ i. played (length (same.transmissions i)) (same.ending i) (length (last_telegram (same.transmissions i)));
    filled = λ p.
        subst (λ (l : List (List ℕ)). SameFilled (placed (padded (last_telegram c.transmissions)) out) (placed (padded (last_telegram l)) out')) same.transmissions
        (same_filled (last_telegram c.transmissions) out out');
  }

  set_same : set_up addresses tables' ≡ set_up addresses tables
  unfolding set_up tables_fit
  set_same = rw lengths.of_tables

  module _ (asks : IsPlayed one.outcome → (h : Head) → reading Station tg ≡ sound h → Asks h (net_of addresses tables) (net_of addresses tables')) where
    module _ (set : set_up addresses tables ≡ true) where
      set' : set_up addresses tables' ≡ true
      set' = set_same ∙ set

      module _ (room : run_output ≤ length out) where
        room' : run_output ≤ length out'
        room' = omega (arith, lengths.of_outputs)

        by_reading : length tg ≤ max_telegram → (r : Reading) → reading Station tg ≡ r → SameRun one two
        unfolding of_course run_of
        by_reading short (faulty k) e =
            same_outright k (run_by tg addresses tables out set short room (sym e)) (run_by tg addresses tables' out' set' short room' (sym e))
        by_reading short (sound h) e =
            let r = runs_the_journey tg addresses tables out h set room e in
            let s = runs_the_journey tg addresses tables' out' h set' room' e in
            let is-played : IsPlayed one.outcome = subst (λ (x : DryRun). IsPlayed x.outcome) (sym r.gives) tt in
            subst₂ SameRun (sym r.gives) (sym s.gives)
            (same_course r.journey.course s.journey.course
            (both_journeys tg (net_of addresses tables) (net_of addresses tables') (good_net_lem addresses tables set) (good_net_lem addresses tables' set')
            (addresses_of_net addresses tables ∙ sym (addresses_of_net addresses tables')) (asks is-played) r.journey.journey s.journey.journey).shown)

      by_room : length tg ≤ max_telegram → (less : Bool) → ltb (length out) run_output ≡ less → SameRun one two
      by_room short true e =
          let few = ltb-true (length out) run_output e in
          same_outright 11 (output_short tg addresses tables out set short few) (output_short tg addresses tables' out' set' short (omega (arith, lengths.of_outputs)))
      by_room short false e = by_reading (ltb-false (length out) run_output e) short (reading Station tg) refl

      by_length : (long : Bool) → ltb max_telegram (length tg) ≡ long → SameRun one two
      by_length true e =
          let more = ltb-true max_telegram (length tg) e in
          same_outright 12 (too_long tg addresses tables out set more) (too_long tg addresses tables' out' set' more)
      by_length false e = by_room (ltb-false max_telegram (length tg) e) (ltb (length out) run_output) refl

    by_net : (set : Bool) → set_up addresses tables ≡ set → SameRun one two
    by_net true e = by_length e (ltb max_telegram (length tg)) refl
    by_net false e = same_outright 1 (not_set_up tg addresses tables out e) (not_set_up tg addresses tables' out' (set_same ∙ e))

    same_run : SameRun one two
    same_run = by_net (set_up addresses tables) refl

pub isolated : Isolated
isolated tg addresses tables tables' out out' o =
    same_run tg addresses tables tables' out out' o.lengths (λ p h e request some. o.destination p h e)

pub refused_isolated : RefusedIsolated
refused_isolated tg addresses tables tables' out out' lengths k e =
    same_run tg addresses tables tables' out out' lengths (λ p. absurd (not_played e p))

pub nobody_isolated : NobodyIsolated
nobody_isolated tg addresses h order none tables tables' out out' lengths =
    same_run tg addresses tables tables' out out' lengths
    (λ p g e request some. absurd (some (subst (λ (x : Head). first x.block ≡ 0) (same_header order e) (none_named h.block none))))

pub missing_isolated : MissingIsolated
missing_isolated tg addresses h order missing tables tables' out out' lengths =
    let same = no_table (before_zeros h.block) addresses tables missing ∙ sym (no_table (before_zeros h.block) addresses tables' missing) in
    same_run tg addresses tables tables' out out' lengths
    (λ p. of_header (λ (g : Head). Asks g (net_of addresses tables) (net_of addresses tables')) order (λ request some. same))

pub replies_isolated : RepliesIsolated
replies_isolated tg addresses h order reply tables tables' out out' lengths =
    same_run tg addresses tables tables' out out' lengths
    (λ p g e request. absurd (reply_request (sym reply ∙ ap (λ (x : Head). x.function) (same_header order e) ∙ request)))

-- an answer by its outcome
same_end : (e f : JourneyEnd) → ending_of e ≡ ending_of f → e ≡ f
same_end end.AtZero end.AtZero x = refl
same_end end.AtZero end.AtNobody x = cc
same_end end.AtZero (end.Refused r) x = cc
same_end end.AtNobody end.AtZero x = cc
same_end end.AtNobody end.AtNobody x = refl
same_end end.AtNobody (end.Refused r) x = cc
same_end (end.Refused r) end.AtZero x = cc
same_end (end.Refused r) end.AtNobody x = cc
same_end (end.Refused r) (end.Refused s) x = ap end.Refused (numbers_differ r s cc)

same_answer : (r s : Result Played Refusal) → outcome_of r ≡ outcome_of s → r ≡ s
same_answer (Ok p) (Ok q) x =
    let counts : p.count ≡ q.count = cc in
    let ends : ending_of p.ending ≡ ending_of q.ending = cc in
    let lengths : p.length ≡ q.length = cc in
    λ i. Ok (record { count = counts i; ending = same_end p.ending q.ending ends i; length = lengths i })
same_answer (Ok p) (Err s) x = cc
same_answer (Err r) (Ok q) x = cc
same_answer (Err r) (Err s) x = let refusals : r ≡ s = numbers_differ r s cc in λ i. Err (refusals i)

pub calls_same : CallsSame
calls_same tg addresses tables tables' out out' run r s after left after' left' p q =
    let same = subst₂ SameRun (sym p) (sym q) run in
    record { answer = same_answer r s same.outcome; filled = same.filled }

pub calls_isolated : CallsIsolated
calls_isolated tg addresses tables tables' out out' o = calls_same tg addresses tables tables' out out' (isolated tg addresses tables tables' out out' o)
