-- No value that is out of range comes in: at a station by what it accepts, and so on a journey hop by hop.
-- Assumes nothing.
use mathlib.Core.Path.{◌≡◌, refl, sym, subst}
use mathlib.Core.Bool.{Bool, true, false}
use mathlib.Core.List.{List}
use mathlib.Core.Logic.{◌⊎◌, inl, inr}
use Prim.Native.Nat.{ℕ, zero, suc}
use native.Mathlib.Omega.{arith}
use borrow.Author.Tests.{eqb-true, eqb-false}
use lib.Dec.{eqb}
use Rattle.base.specs.Choice.{pick}
use Rattle.mop_registers.specs.Runs.{KeptOrInRange}
use Rattle.mop_registers.proofs.Runs.{kept_in_range, writes_in_range}
use Rattle.mop_block.specs.Block.{first}
use Rattle.mop_header.specs.Header.{body_of}
use Rattle.mop_reader.specs.Reading.{Reading, sound, faulty, reading}
use Rattle.mop_reader.specs.declared.Reader.TheVariants.{Station}
use Rattle.mop_body.specs.Body.{write_start, values_of}
use Rattle.mop_step.specs.Body.{accepts, judged_body, after_writes}
use Rattle.mop_step.proofs.Bodies.{accepted}
use Rattle.mop_station.specs.Station.{handling}
use Rattle.mop_station.specs.Safety.{CarriesOutTelegram}
use Rattle.mop_station.proofs.Safety.{only_destination_writes}
use Rattle.net_journey.specs.Net.{Net, is_there, table_at, with_table}
use Rattle.net_journey.specs.Journey.{at_nobody, no_station, station, named, addressee, handler, ends, refused, sends}
use Rattle.net_journey.proofs.Net.{table_same, table_other}
use Rattle.net_laws.specs.Ranges.{StationInRange, JourneyInRange}

-- nothing changed
same_in_range : (t u : List ℕ) → u ≡ t → KeptOrInRange t u
same_in_range t u e n there = inl (rw e)

carried_in_range : (body t : List ℕ) → judged_body body ≡ accepts → KeptOrInRange t (after_writes body t)
unfolding after_writes
carried_in_range body t verdict = writes_in_range t (write_start body) (values_of body) (accepted body verdict).in_range

pub station_in_range : StationInRange
station_in_range own t telegram out = go (handling own t telegram out).registers (only_destination_writes own t telegram out)
  where
    go : (after : List ℕ) → (after ≡ t) ⊎ CarriesOutTelegram own t telegram after → KeptOrInRange t after
    go after (inl e) = same_in_range t after e
    go after (inr c) = subst (KeptOrInRange t) (sym c.carried.all) (carried_in_range (body_of c.head telegram) t c.carried.accepted)

-- a called station is there, and has its own table
module _ (net : Net) where
  abbrev Called : ℕ → List ℕ → Type 0
  Called a t = (is_there a net ≡ true) × (t ≡ table_at a net)

  picked_there : (there : Bool) (b : ℕ) → is_there b net ≡ there → (a : ℕ) (t : List ℕ) →
      pick there (station b (table_at b net)) (no_station at_nobody) ≡ station a t → Called a t
  picked_there true b is a t e = let one : b ≡ a = cc in let two : t ≡ table_at b net = cc in (rw (← one) is, rw (← one) two)
  picked_there false b is a t e = let x : ◌≡◌ {A = ℕ} 0 1 = cc in absurd (omega arith)

  named_there : (b a : ℕ) (t : List ℕ) → named b net ≡ station a t → Called a t
  unfolding named
  named_there zero a t e = let x : ◌≡◌ {A = ℕ} 0 1 = cc in absurd (omega arith)
  named_there (suc b) a t e = picked_there (is_there (suc b) net) (suc b) refl a t e

  addressee_there : (r : Reading) (a : ℕ) (t : List ℕ) → addressee r net ≡ station a t → Called a t
  unfolding addressee
  addressee_there (sound h) a t e = named_there (first h.block) a t e
  addressee_there (faulty k) a t e = let x : ◌≡◌ {A = ℕ} 0 1 = cc in absurd (omega arith)

  called_there : (tg : List ℕ) (a : ℕ) (t : List ℕ) → handler net tg ≡ station a t → Called a t
  unfolding handler
  called_there tg a t e = addressee_there (reading Station tg) a t e

  -- the tables as the called station leaves them
  left_in_range : (tg out : List ℕ) (a : ℕ) (t : List ℕ) → handler net tg ≡ station a t → (b : ℕ) →
      KeptOrInRange (table_at b net) (table_at b (with_table a (handling a t tg out).registers net))
  left_in_range tg out a t mine b = go (eqb b a) refl
    where
      after : List ℕ
      after = (handling a t tg out).registers

      go : (same : Bool) → eqb b a ≡ same → KeptOrInRange (table_at b net) (table_at b (with_table a after net))
      go true e =
          let called = called_there tg a t mine in
          rw (eqb-true b a e, table_same a after net called.0, ← called.1) (station_in_range a t tg out)
      go false e = same_in_range _ _ (table_other a b after net (eqb-false b a e))

pub journey_in_range : JourneyInRange
journey_in_range net tg c (ends e) b = λ n there. inl refl
journey_in_range net tg c (refused {t = t} {a = a} mine out room e) b = left_in_range net tg out a t mine b
journey_in_range net tg c (sends {t = t} {a = a} {n = n} {rest = rest} mine out room e j) b =
    let left = with_table a (handling a t tg out).registers net in
    kept_in_range (table_at b net) (table_at b left) (table_at b rest.after) (left_in_range net tg out a t mine b) (journey_in_range left _ rest j b)
