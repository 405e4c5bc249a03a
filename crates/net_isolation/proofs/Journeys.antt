-- Two nets that agree at the destination have the same journey of a telegram, hop after hop.
-- Assumes nothing.
use mathlib.Core.Path.{◌≡◌, refl, sym, ◌∙◌, ap, subst, subst₂}
use mathlib.Core.Bool.{Bool, true, false}
use mathlib.Core.List.{List, [], ◌∷◌}
use Prim.Native.Nat.{ℕ, zero, suc, ◌+◌}
use native.Mathlib.Nat.{suc-ne-zero}
use native.Mathlib.Omega.{arith}
use borrow.Author.Tests.{eqb-true, eqb-false}
use lib.Dec.{eqb}
use lib.ListN.{length}
use Rattle.mop_block.specs.Block.{has, good_block, first, next, roll_left}
use Rattle.mop_header.specs.Header.{Head, telegram_of, body_of, rolled_left}
use Rattle.mop_reader.specs.Reading.{Reading, sound, faulty, reading}
use Rattle.mop_header.specs.declared.Function.{Function}
use Rattle.mop_header.specs.declared.Function.TheVariants.{Request, Reply}
use Rattle.mop_reader.specs.declared.Reader.TheVariants.{Station}
use Rattle.mop_reader.proofs.ReadBack.{is_written}
use Rattle.mop_step.specs.Step.{Stepped, relays, answers, not_mine, refuses, is_station, relayed, stepping}
use Rattle.mop_step.proofs.Stations.{is_station_lem}
use Rattle.mop_station.specs.Station.{Handled, sent}
use Rattle.mop_station.specs.Station as station
use Rattle.net_journey.specs.Net.{Net, addresses_of, good_net, is_there, table_at, with_table}
use Rattle.net_journey.specs.Journey.{Ending, at_zero, at_nobody, refused_with, Course, onward, call_output, Journey}
use Rattle.net_journey.specs.Terms.{before_zeros}
use Rattle.net_journey.specs.Bounded.{playing}
use Rattle.net_journey.proofs.Net.{table_other, table_same, addresses_with, good_table, good_address}
use Rattle.net_journey.proofs.Telegrams.{sound_faultless}
use Rattle.net_journey.proofs.Start.{reply_request}
use Rattle.net_journey.proofs.Whole.{every_journey}
use Rattle.net_journey.proofs.Steps.{ends_faulty}
use Rattle.net_journey.proofs.Bounded.{plays}
use Rattle.net_journey.proofs.Walks.{walk_zero, walk_nobody, walk_relayed, walk_answered, walk_refused, never_another}
use Rattle.net_isolation.specs.Journeys.{SameCourse, JourneysIsolated, TablesIsolated, StaysGood}
use Rattle.net_isolation.proofs.Ring.{destination_first, destination_stays}
use Rattle.net_isolation.proofs.Registers.{step_same, step_relays, step_answers}

-- what is asked of two tables of the destination: that they are the same, for a request with a station first
abbrev pub Asks : Head → Net → Net → Type 0
Asks h net net' = h.function ≡ Request → (first h.block ≡ 0 → ⊥) → (let a = before_zeros h.block in table_at a net ≡ table_at a net')

-- two good nets with the same stations that agree so
record Agree (net net' : Net) (h : Head) : Type 0 where
  good : good_net net ≡ true
  good' : good_net net' ≡ true
  stations : addresses_of net ≡ addresses_of net'
  table : Asks h net net'

-- stations with the same table have the same one in two nets that come of these
abbrev pub Kept : Net → Net → Net → Net → Type 0
Kept net net' after after' = (b : ℕ) → table_at b net ≡ table_at b net' → table_at b after ≡ table_at b after'

kept_with : (a : ℕ) {t t' : List ℕ} (net net' : Net) → t ≡ t' → is_there a net ≡ true → is_there a net' ≡ true → Kept net net' (with_table a t net) (with_table a t' net')
kept_with a {t} {t'} net net' e there there' b same = go (eqb b a) refl
  where
    go : (here : Bool) → eqb b a ≡ here → table_at b (with_table a t net) ≡ table_at b (with_table a t' net')
    go true is = rw (eqb-true b a is) (table_same a t net there ∙ e ∙ sym (table_same a t' net' there'))
    go false is =
        let apart = eqb-false b a is in
        table_other a b t net apart ∙ same ∙ sym (table_other a b t' net' apart)

-- two courses from two nets: they show the same, keep what is the same, and leave a good net
pub record Both (net net' : Net) (c d : Course) : Type 0 where
  pub shown : SameCourse c d
  pub kept : Kept net net' c.after d.after
  pub good : good_net c.after ≡ true

-- said of equal courses; one transmission, and one more before the others
both_as : {net net' : Net} {c c' d d' : Course} → c ≡ c' → d ≡ d' → Both net net' c' d' → Both net net' c d
both_as {net} {net'} e f s = subst₂ (Both net net') (sym e) (sym f) s

both_end : (tg : List ℕ) (net net' : Net) (given : List Handled) (e : Ending) → good_net net ≡ true →
    Both net net' (record { transmissions = tg ∷ []; answers = given; after = net; ending = e }) (record { transmissions = tg ∷ []; answers = given; after = net'; ending = e })
both_end tg net net' given e good = record { shown = record { transmissions = refl; answers = refl; ending = refl }; kept = λ b same. same; good = good }

both_onward : (tg : List ℕ) (k : ℕ) {net net' n n' : Net} {c d : Course} → Kept net net' n n' → Both n n' c d →
    Both net net' (onward tg k c) (onward tg k d)
both_onward tg k between s = record {
  shown = record {
    transmissions = ap (λ (l : List (List ℕ)). tg ∷ l) s.shown.transmissions;
    answers = ap (λ (l : List Handled). sent k ∷ l) s.shown.answers;
    ending = s.shown.ending;
  };
  kept = λ b same. s.kept b (between b same);
  good = s.good;
}

-- the block of a request that is relayed
relayed_block : (f : Function) (h : Head) → f ≡ Request → (relayed f h).block ≡ roll_left h.block
unfolding relayed rolled_left
relayed_block Request h e = refl
relayed_block Reply h e = absurd (reply_request e)

-- one hop, in both nets; the k hops behind it are the same
module _ (k : ℕ)
    (later : (net net' : Net) (h : Head) (body : List ℕ) → Agree net net' h → reading Station (telegram_of h body) ≡ sound h →
    Both net net' (playing k net (telegram_of h body)) (playing k net' (telegram_of h body)))
    (net net' : Net) (h : Head) (body : List ℕ) (agree : Agree net net' h) (order : reading Station (telegram_of h body) ≡ sound h) where
  abbrev Same : Type 0
  Same = Both net net' (playing (suc k) net (telegram_of h body)) (playing (suc k) net' (telegram_of h body))

  there_same : (a : ℕ) → is_there a net' ≡ is_there a net
  unfolding is_there
  there_same a = ap (has a) (sym agree.stations)

  good_block_lem : good_block h.block ≡ true
  good_block_lem = (sound_faultless (telegram_of h body) h order).good

  -- at a station
  module _ (a : ℕ) (mine : first h.block ≡ a) (some : first h.block ≡ 0 → ⊥) (there : is_there a net ≡ true) where
    there' : is_there a net' ≡ true
    there' = there_same a ∙ there

    set_in : (n : Net) → good_net n ≡ true → is_there a n ≡ true → is_station a (table_at a n) ≡ true
    set_in n good is = is_station_lem a (table_at a n) (good_address a n good is) (good_table a n good is)

    -- the destination has the same table in both
    table_here : h.function ≡ Request → next h.block ≡ 0 → table_at a net ≡ table_at a net'
    table_here request last =
        subst (λ (d : ℕ). table_at d net ≡ table_at d net') (destination_first h.block good_block_lem some last ∙ mine) (agree.table request some)

    steps_same : (stepping a h body (table_at a net) call_output).stepped ≡ (stepping a h body (table_at a net') call_output).stepped
    steps_same =
        step_same h body call_output a (table_at a net) (table_at a net') (set_in net agree.good there) (set_in net' agree.good' there') mine
        table_here

    relay_agrees : {g : Head} → (stepping a h body (table_at a net) call_output).stepped ≡ relays g → g.function ≡ h.function → Agree net net' g
    relay_agrees {g} e function =
        let made = step_relays h body call_output (table_at a net) a (set_in net agree.good there) mine e in
        record {
          good = agree.good;
          good' = agree.good';
          stations = agree.stations;
          table = λ request named.
              let asked = sym function ∙ request in
              let same = ap (λ (x : Head). before_zeros x.block) made.0 ∙ ap before_zeros (relayed_block h.function h asked)
              ∙ destination_stays h.block good_block_lem some (made.1 asked) in
              subst (λ (d : ℕ). table_at d net ≡ table_at d net') (sym same) (agree.table asked some);
        }

    by_step : (x : Stepped) → (stepping a h body (table_at a net) call_output).stepped ≡ x → Same
    by_step (relays g) e =
        let r = walk_relayed net h body order agree.good a mine there refl e in
        let s = walk_relayed net' h body order agree.good' a mine there' refl (sym steps_same ∙ e) in
        both_as (r.plays k) (s.plays k)
        (both_onward (telegram_of h body) (length (telegram_of g body)) (λ b same. same) (later net net' g body (relay_agrees e r.function) r.order))
    by_step (answers g reply) e =
        let r = walk_answered net h body order agree.good a mine there refl e in
        let s = walk_answered net' h body order agree.good' a mine there' refl (sym steps_same ∙ e) in
        let who = step_answers h body call_output (table_at a net) a (set_in net agree.good there) mine e in
        let written = ap (λ (t : List ℕ). (stepping a h body t call_output).registers) (table_here who.0 who.1) in
        both_as (r.plays k) (s.plays k)
        (both_onward (telegram_of h body) (length (telegram_of g reply)) (kept_with a net net' written there there') (later _ _ g reply
        (record {
          good = r.fit;
          good' = s.fit;
          stations = addresses_with a _ net ∙ agree.stations ∙ sym (addresses_with a _ net');
          table = λ request. absurd (reply_request (sym r.is_reply ∙ request));
        })
        r.order))
    by_step (refuses j) e =
        let r = walk_refused net h body order agree.good a mine there refl e in
        let s = walk_refused net' h body order agree.good' a mine there' refl (sym steps_same ∙ e) in
        both_as (r.plays k) (s.plays k) (both_end (telegram_of h body) net net' (station.refuses j ∷ []) (refused_with j) agree.good)
    by_step not_mine e = absurd (never_another net h body order agree.good a mine there refl e)

  by_there : (a : ℕ) → first h.block ≡ a → (a ≡ 0 → ⊥) → (there : Bool) → is_there a net ≡ there → Same
  by_there a mine some true is =
      by_step a mine (λ z. some (sym mine ∙ z)) is (stepping a h body (table_at a net) call_output).stepped refl
  by_there a mine some false is =
      both_as (walk_nobody net h body order a mine some is k) (walk_nobody net' h body order a mine some (there_same a ∙ is) k)
      (both_end (telegram_of h body) net net' [] at_nobody agree.good)

  by_first : (a : ℕ) → first h.block ≡ a → Same
  by_first zero mine = both_as (walk_zero net h body order mine k) (walk_zero net' h body order mine k) (both_end (telegram_of h body) net net' [] at_zero agree.good)
  by_first (suc p) mine = by_there (suc p) mine (suc-ne-zero p) (is_there (suc p) net) refl

same_from : (k : ℕ) (net net' : Net) (h : Head) (body : List ℕ) → Agree net net' h → reading Station (telegram_of h body) ≡ sound h →
    Both net net' (playing k net (telegram_of h body)) (playing k net' (telegram_of h body))
unfolding playing
same_from zero net net' h body agree order = both_end (telegram_of h body) net net' [] at_zero agree.good
same_from (suc k) net net' h body agree order = by_first k (same_from k) net net' h body agree order (first h.block) refl

-- the journeys of any telegram in two good nets with the same stations
module _ (tg : List ℕ) (net net' : Net) (good : good_net net ≡ true) (good' : good_net net' ≡ true) (stations : addresses_of net ≡ addresses_of net')
    (asks : (h : Head) → reading Station tg ≡ sound h → Asks h net net') where
  read_same : (k : ℕ) (r : Reading) → reading Station tg ≡ r → Both net net' (playing (suc k) net tg) (playing (suc k) net' tg)
  read_same k (faulty j) e =
      both_as (plays (suc k) (ends_faulty net tg j e) (omega arith)) (plays (suc k) (ends_faulty net' tg j e) (omega arith))
      (both_end tg net net' [] (refused_with j) good)
  read_same k (sound h) e =
      let whole = (is_written Station tg h e).whole in
      subst (λ (x : List ℕ). Both net net' (playing (suc k) net x) (playing (suc k) net' x)) whole
      (same_from (suc k) net net' h (body_of h tg) (record { good = good; good' = good'; stations = stations; table = asks h e })
      (ap (reading Station) whole ∙ e))

  pub both_journeys : {c d : Course} → Journey net tg c → Journey net' tg d → Both net net' c d
  both_journeys {c} {d} i j =
      let both = length c.transmissions + length d.transmissions in
      subst₂ (Both net net') (plays (suc both) i (omega arith)) (plays (suc both) j (omega arith)) (read_same both (reading Station tg) refl)

-- a telegram has one header
pub same_header : {r : Reading} {h g : Head} → r ≡ sound h → r ≡ sound g → h ≡ g
same_header e f = let x = sym e ∙ f in cc

-- so what holds of it holds of the header that a telegram is read as
pub of_header : {r : Reading} {h : Head} (P : Head → Type 0) → r ≡ sound h → P h → (g : Head) → r ≡ sound g → P g
of_header P order p g e = subst P (same_header order e) p

pub journeys_isolated : JourneysIsolated
journeys_isolated tg net net' c d good good' stations same i j =
    (both_journeys tg net net' good good' stations (λ h e request some. same h e) i j).shown

-- the destination by what it had, and the others since they keep their tables
module _ (tg : List ℕ) (net net' : Net) (c d : Course) (good : good_net net ≡ true) (good' : good_net net' ≡ true) (stations : addresses_of net ≡ addresses_of net')
    (i : Journey net tg c) (j : Journey net' tg d) (a : ℕ) (same : table_at a net ≡ table_at a net') where
  table_kept : (n : Net) → good_net n ≡ true → {x : Course} → Journey n tg x → (h : Head) → reading Station tg ≡ sound h → (a ≡ before_zeros h.block → ⊥) →
      table_at a x.after ≡ table_at a n
  table_kept n fit {x} k h order other =
      let the = every_journey n tg fit in
      ap (λ (y : Course). table_at a y.after) (the.only x k) ∙ the.demand3.others_kept h order a other

  at_station : (h : Head) → reading Station tg ≡ sound h → (here : Bool) → eqb a (before_zeros h.block) ≡ here → table_at a c.after ≡ table_at a d.after
  at_station h order true is =
      let here = subst (λ (b : ℕ). table_at b net ≡ table_at b net') (eqb-true a (before_zeros h.block) is) same in
      (both_journeys tg net net' good good' stations (of_header (λ (g : Head). Asks g net net') order (λ request some. here)) i j).kept a same
  at_station h order false is =
      let other = eqb-false a (before_zeros h.block) is in
      table_kept net good i h order other ∙ same ∙ sym (table_kept net' good' j h order other)

  after_same : (r : Reading) → reading Station tg ≡ r → table_at a c.after ≡ table_at a d.after
  after_same (sound h) order = at_station h order (eqb a (before_zeros h.block)) refl
  after_same (faulty k) fault =
      (both_journeys tg net net' good good' stations (λ h e. let x = sym fault ∙ e in cc) i j).kept a same

pub tables_isolated : TablesIsolated
tables_isolated tg net net' c d good good' stations i j a same = after_same tg net net' c d good good' stations i j a same (reading Station tg) refl

pub stays_good : StaysGood
stays_good tg net c good j = (both_journeys tg net net good good refl (λ h e request some. refl) j j).good
