-- Demand 3 of every journey, byte for byte, and the bound on its transmissions.
-- Assumes nothing.
use mathlib.Core.Path.{◌≡◌, refl, sym, ◌∙◌, ap, subst}
use mathlib.Core.Logic.{◌⊎◌, inl, inr}
use mathlib.Core.Bool.{true}
use mathlib.Core.List.{List}
use Prim.Native.Nat.{ℕ, zero, suc, ◌*◌, ◌≤◌}
use native.Mathlib.Omega.{arith}
use lib.ListN.{length, replicate}
use Rattle.mop_block.specs.Block.{first}
use Rattle.mop_block.proofs.Stations.{named_bound}
use Rattle.mop_header.specs.Header.{Head, body_of}
use Rattle.mop_reader.specs.Reading.{Reading, sound, faulty, good_for, reading}
use Rattle.mop_reader.specs.declared.Reader.TheVariants.{Station}
use Rattle.mop_reader.proofs.Sizes.{sized_most}
use Rattle.mop_reader.proofs.ReadBack.{is_written}
use Rattle.net_journey.specs.Net.{Net, good_net, table_at, with_table}
use Rattle.net_journey.specs.Journey.{Ending, refused_with, Course, unheard, call_output, Journey}
use Rattle.net_journey.specs.Terms.{m, before_zeros, WrittenBy}
use Rattle.net_journey.specs.Demand3.{Carried, Demand3, TheJourney, EveryJourney}
use Rattle.net_journey.specs.Transmissions.{ByteForByte}
use Rattle.net_journey.specs.Bounded.{most_named, NamesAtMost31, most_transmissions, AtMost62, PlaysTheJourney}
use Rattle.net_journey.proofs.Net.{table_other, table_same, good_table}
use Rattle.net_journey.proofs.Passage.{Carries}
use Rattle.mop_header.specs.declared.Function.TheVariants.{Request}
use Rattle.mop_step.specs.Body.{after_writes}
use Rattle.net_journey.proofs.Calls.{call_fault}
use Rattle.net_journey.proofs.Ring.{none_named, some_named}
use Rattle.net_journey.proofs.Unique.{unique}
use Rattle.net_journey.proofs.Bounded.{plays}
use Rattle.net_journey.proofs.Steps.{ends_faulty, ends_zero, ends_nobody}
use Rattle.net_journey.proofs.Courses.{stations_stay, given_by, last_refused, sent_each}
use Rattle.net_journey.proofs.Start.{Ran, Start, start}
use Rattle.net_journey.proofs.Fresh.{writes_all, fulfilled, in_bytes}

-- where one table at most changed, the others are as before
other_kept : {F : Type 0} (net after : Net) (a d : ℕ) (body : List ℕ) → (after ≡ net) ⊎ (F × Carries net d body after) → (a ≡ d → ⊥) → table_at a after ≡ table_at a net
other_kept net after a d body (inl e) n = ap (table_at a) e
other_kept net after a d body (inr x) n = ap (table_at a) x.1.is ∙ table_other d a (after_writes body (table_at d net)) net n

-- the one that changed has the values of the body
changed : (net : Net) → good_net net ≡ true → (h : Head) (body : List ℕ) (c : Course) →
    (c.after ≡ net) ⊎ ((h.function ≡ Request) × Carries net (before_zeros h.block) body c.after) → (c.after ≡ net) ⊎ Carried net h body c
changed net fit h body c (inl e) = inl e
changed net fit h body c (inr x) =
    let a = before_zeros h.block in
    let y = x.1 in
    let t = after_writes body (table_at a net) in
    let now : table_at a c.after ≡ t = ap (table_at a) y.is ∙ table_same a t net y.there in
    inr (record {
      request = x.0;
      accepted = y.accepted;
      written = subst (λ (u : List ℕ). WrittenBy body (table_at a net) u) (sym now)
          (writes_all body (table_at a net) y.accepted (good_table a net fit y.there));
      others = y.is ∙ ap (λ (u : List ℕ). with_table a u net) (sym now);
    })

-- whatever journey it is
module _ (net : Net) (tg : List ℕ) (fit : good_net net ≡ true) where
  started : (h : Head) → reading Station tg ≡ sound h → Start net tg h (body_of h tg)
  started h order = start (replicate call_output 0) (omega arith) net fit tg h order

  ran : {c : Course} → Journey net tg c → (h : Head) → reading Station tg ≡ sound h → Ran net h (body_of h tg) c
  ran j h order = let s = started h order in subst (Ran net h (body_of h tg)) (unique s.journey j) s.ran

  refused_kept : {c : Course} → Journey net tg c → (r : Reading) → reading Station tg ≡ r → (k : ℕ) → c.ending ≡ refused_with k → c.after ≡ net
  refused_kept j (faulty k) e n is = ap (λ (d : Course). d.after) (unique j (ends_faulty net tg k e))
  refused_kept j (sound h) e n is = (ran j h e).refused_keeps n is

  demand3 : {c : Course} → Journey net tg c → Demand3 net tg c
  demand3 {c} j = record {
    fault_refused = λ k e own t out address long. call_fault own t tg out k e address long;
    fault_ends = λ k e. unique j (ends_faulty net tg k e);
    none_named = λ h order e. unique j (ends_zero net tg h order (none_named h.block e));
    zero_first = λ h order e. unique j (ends_zero net tg h order e);
    nobodys_first = λ h order n none. unique j (ends_nobody net tg h order (first h.block) refl n none);
    at_most = λ h order some. (ran j h order).most some;
    refused_last = λ earlier later k e. last_refused later k j earlier e;
    refused_by = λ h order k e. given_by j (ran j h order).fine k e;
    accomplished = λ h order fresh all verdict.
        fulfilled net h (body_of h tg) c ((ran j h order).fresh fresh all verdict) fit (some_named h.block fresh.first_named) all verdict;
    declined = λ h order fresh all k verdict. (ran j h order).stopped fresh all k verdict;
    unreached = λ h order fresh some. (ran j h order).unreached fresh some;
    changes = λ h order. changed net fit h (body_of h tg) c (ran j h order).changes;
    others_kept = λ h order a n. other_kept net c.after a (before_zeros h.block) (body_of h tg) (ran j h order).changes n;
    same_stations = stations_stay j;
    sent_next = sent_each j;
    refused_keeps = refused_kept j (reading Station tg) refl;
    all_fine_lem = λ h order. (ran j h order).fine;
    all_ordinary_lem = λ h order. (ran j h order).plain;
  }

  given : {c : Course} → Journey net tg c → TheJourney net tg
  given {c} j = record { course = c; journey = j; only = λ d k. unique k j; demand3 = demand3 j }

  -- by what reading says
  by_reading : (r : Reading) → reading Station tg ≡ r → TheJourney net tg
  by_reading (faulty k) e = given (ends_faulty net tg k e)
  by_reading (sound h) e = given (started h e).journey

pub every_journey : EveryJourney
every_journey net tg fit = by_reading net tg fit (reading Station tg) refl

pub byte_for_byte : ByteForByte
byte_for_byte net tg c fit j h order fresh all verdict =
    in_bytes net h (body_of h tg) c ((ran net tg fit j h order).fresh fresh all verdict) fresh.request (is_written Station tg h order).order.mark

-- the bounds
pub names_at_most_31 : NamesAtMost31
unfolding good_for
names_at_most_31 tg h order =
    let well = is_written Station tg h order in
    let some-zero = named_bound h.block well.order.block in
    let entries = sized_most h.form (length h.block) well.order.size in
    omega arith

twice : (x n : ℕ) → x ≤ 2 * n → n ≤ most_named → x ≤ most_transmissions
twice x n a b = omega arith

one_transmission : {c : Course} (tg : List ℕ) (net : Net) {e : Ending} → c ≡ unheard tg net e → length c.transmissions ≤ most_transmissions
one_transmission tg net e = rw e (omega arith)

module _ (net : Net) (tg : List ℕ) (c : Course) (d : Demand3 net tg c) where
  most_named_lem : (h : Head) → reading Station tg ≡ sound h → (n : ℕ) → m h ≡ n → length c.transmissions ≤ most_transmissions
  most_named_lem h order zero e = one_transmission tg net (d.none_named h order e)
  most_named_lem h order (suc n) e =
      twice (length c.transmissions) (m h) (d.at_most h order (rw e (omega arith))) (names_at_most_31 tg h order)

  most_by : (r : Reading) → reading Station tg ≡ r → length c.transmissions ≤ most_transmissions
  most_by (faulty k) e = one_transmission tg net (d.fault_ends k e)
  most_by (sound h) e = most_named_lem h e (m h) refl

pub at_most_62 : AtMost62
at_most_62 net tg c fit j = most_by net tg c (demand3 net tg fit j) (reading Station tg) refl

pub plays_the_journey : PlaysTheJourney
plays_the_journey net tg fit =
    let t = every_journey net tg fit in
    subst (Journey net tg) (sym (plays most_transmissions t.journey (at_most_62 net tg t.course fit t.journey))) t.journey
