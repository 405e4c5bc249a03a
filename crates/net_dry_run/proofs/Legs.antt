-- A leg of a journey: what is left of the journey gives the whole, hop after hop.
-- Assumes nothing.
use mathlib.Core.Path.{◌≡◌, refl, sym, ◌∙◌, ap, ap₂}
use mathlib.Core.Bool.{true}
use mathlib.Core.List.{List, [], ◌∷◌}
use Prim.Native.Nat.{ℕ, zero, suc, ◌+◌, ◌-◌, ◌≤◌, ◌<◌}
use native.Mathlib.Omega.{arith}
use lib.ListN.{length, take, drop}
use Rattle.mop_header.specs.Header.{Head, head_of, block_start, header_length, telegram_of}
use Rattle.mop_header.specs.declared.Header.{Header}
use Rattle.mop_reader.specs.Reading.{sound, reading}
use Rattle.mop_header.specs.declared.Function.TheVariants.{Reply}
use Rattle.mop_reader.specs.declared.Reader.TheVariants.{Station}
use Rattle.mop_reader.proofs.ReadBack.{is_written}
use Rattle.mop_station.specs.Station.{Handled, sent, not_mine, refuses}
use Rattle.net_journey.specs.Net.{Net}
use Rattle.net_journey.specs.Journey.{Ending, at_zero, Handler, no_station, station, handler, Course, onward, left_by}
use Rattle.net_journey.specs.Terms.{last_telegram}
use Rattle.net_journey.specs.Bounded.{calling, answered, heard_by, playing, most_transmissions}
use Rattle.net_hop.specs.Tables.{net_of, set_up}
use Rattle.net_hop.specs.Private.Ways.{OnItsWay}
use Rattle.net_dry_run.specs.DryRun.{played, leaves, padded}
use Rattle.net_dry_run.specs.Private.Legs.{summary_of, summary_from, LegEnds, LegTurns, of_summary}
use Rattle.net_hop.proofs.Tables.{same_tables}
use Rattle.net_hop.proofs.Lent.{whole_telegram}
use Rattle.net_hop.proofs.Hops.{Goes, GoesOn, TurnsBack, Ends}

-- whatever is played has a transmission
given_some : (rest : Net → List ℕ → Course) (net : Net) (tg output : List ℕ) (v : Handled) → 1 ≤ length (answered rest net tg output v).transmissions
given_some rest net tg output (sent n) = omega arith
given_some rest net tg output (refuses k) = omega arith
given_some rest net tg output not_mine = omega arith

heard_some : (rest : Net → List ℕ → Course) (net : Net) (tg : List ℕ) (m : Handler) → 1 ≤ length (heard_by rest net tg m).transmissions
heard_some rest net tg (no_station e) = omega arith
heard_some rest net tg (station a t) =
    let c = calling a t tg in
    given_some rest (left_by a c net) tg c.output c.handled

played_some : (k : ℕ) (net : Net) (tg : List ℕ) → 1 ≤ length (playing k net tg).transmissions
unfolding playing
played_some zero net tg = omega arith
played_some (suc k) net tg = heard_some (playing k) net tg (handler net tg)

last_later : (tg : List ℕ) (later : List (List ℕ)) → 1 ≤ length later → last_telegram (tg ∷ later) ≡ last_telegram later
unfolding last_telegram
last_later tg [] h = absurd (omega arith)
last_later tg (next ∷ later) h = refl

-- one more transmission was made
summary_onward : (gone n : ℕ) (tg : List ℕ) (rest : Course) → 1 ≤ length rest.transmissions →
    summary_of gone (onward tg n rest) ≡ summary_of (gone + 1) rest
summary_onward gone n tg rest some =
    ap₂ (λ (x : ℕ) (l : List ℕ). record { count = x; last = l; ending = rest.ending; net = rest.after })
    (one_more gone (length rest.transmissions)) (last_later tg rest.transmissions some)
  where
    one_more : (x l : ℕ) → x + suc l ≡ x + 1 + l
    one_more x l = omega arith

-- or it was the last one
summary_last : (gone : ℕ) (tg : List ℕ) (given : List Handled) (net : Net) (e : Ending) →
    summary_of gone (record { transmissions = tg ∷ []; answers = given; after = net; ending = e })
    ≡ record { count = gone + 1; last = tg; ending = e; net = net }
unfolding last_telegram
summary_last gone tg given net e = refl

-- a leg that began with h₀, at its telegram of h
pub record Onward (addresses places tables₀ : List ℕ) (before : ℕ) (h₀ : Head) (body tables : List ℕ) (gone : ℕ) (h : Head) : Type 0 where
  pub way : OnItsWay addresses places tables gone h body
  pub whole : summary_from before (net_of addresses tables₀) h₀ body ≡ summary_from gone (net_of addresses tables) h body
  pub function : h.function ≡ h₀.function

module _ {addresses places tables₀ : List ℕ} {before : ℕ} {h₀ : Head} {body : List ℕ} where
  pub leg_begins : OnItsWay addresses places tables₀ before h₀ body → Onward addresses places tables₀ before h₀ body tables₀ before h₀
  leg_begins w = record { way = w; whole = refl; function = refl }

  module _ {tables : List ℕ} {gone : ℕ} {h : Head} (o : Onward addresses places tables₀ before h₀ body tables gone h) where
    short : length (telegram_of h body) ≤ 1024
    short = (is_written Station (telegram_of h body) h o.way.order).short

    module _ (left : gone < most_transmissions) where
      abbrev calls : ℕ
      calls = most_transmissions - (gone + 1)

      one_less : most_transmissions - gone ≡ suc calls
      one_less = omega arith

      from_here : {c : Course} → playing (suc calls) (net_of addresses tables) (telegram_of h body) ≡ c →
          summary_from before (net_of addresses tables₀) h₀ body ≡ summary_of gone c
      from_here e = o.whole ∙ ap (λ (k : ℕ). summary_of gone (playing k (net_of addresses tables) (telegram_of h body))) one_less ∙ ap (summary_of gone) e

      module _ {after : List ℕ} where
        goes_on : {g : Head} {next : List ℕ} → Goes addresses tables h body after g next →
            summary_from before (net_of addresses tables₀) h₀ body ≡ summary_from (gone + 1) (net_of addresses after) g next
        goes_on {g} {next} p =
            let rest = playing calls (net_of addresses after) (telegram_of g next) in
            from_here (p.plays calls)
            ∙ summary_onward gone (length (telegram_of g next)) (telegram_of h body) rest (played_some calls (net_of addresses after) (telegram_of g next))

        on_its_way : {g : Head} {next : List ℕ} → Goes addresses tables h body after g next → OnItsWay addresses places after (gone + 1) g next
        on_its_way p = record { set = p.set; known = o.way.known; order = p.order; most = omega arith }

        pub leg_goes_on : {g : Head} → GoesOn addresses tables h body after g → Onward addresses places tables₀ before h₀ body after (gone + 1) g
        leg_goes_on p = record { way = on_its_way p.goes; whole = goes_on p.goes; function = p.function ∙ o.function }

        pub leg_turns : {g : Head} {reply : List ℕ} → TurnsBack addresses tables h body after g reply →
            LegTurns addresses places tables₀ before h₀ body after (gone + 1) g reply
        leg_turns p = record {
          whole = goes_on p.goes;
          onward = on_its_way p.goes;
          request = sym o.function ∙ p.request;
          back = p.back;
        }

        pub leg_ends : {e : Ending} → Ends addresses tables h body after e → LegEnds addresses tables₀ before h₀ body after gone h e
        leg_ends {e} p = record {
          whole = from_here (p.plays calls) ∙ summary_last gone (telegram_of h body) p.given (net_of addresses after) e;
          fits = p.set;
          short = short;
          most = o.way.most;
        }

    -- no more is looked at
    pub leg_over : {n : ℕ} → n ≡ most_transmissions → n ≤ gone → LegEnds addresses tables₀ before h₀ body tables n h at_zero
    unfolding playing
    leg_over {n} e l =
        let none : most_transmissions - gone ≡ 0 = omega arith in
        let all : gone ≡ n = omega arith in
        record {
          whole = o.whole ∙ ap (λ (k : ℕ). summary_of gone (playing k (net_of addresses tables) (telegram_of h body))) none
              ∙ summary_last gone (telegram_of h body) [] (net_of addresses tables) at_zero
              ∙ ap (λ (k : ℕ). record { count = k + 1; last = telegram_of h body; ending = at_zero; net = net_of addresses tables }) all;
          fits = o.way.set;
          short = short;
          most = omega arith;
        }

-- what a run gives where a leg ended
pub run_ends : {addresses tables : List ℕ} {before : ℕ} {h : Head} {body after : List ℕ} {gone : ℕ} {g : Head} {e : Ending} →
    LegEnds addresses tables before h body after gone g e →
    leaves (played (gone + 1) e (length (telegram_of g body))) after (padded (telegram_of g body))
    ≡ of_summary (summary_from before (net_of addresses tables) h body)
run_ends {addresses} {body = body} {after = after} {gone = gone} {g = g} {e = e} p =
    ap (λ (l : List ℕ). leaves (played (gone + 1) e (length (telegram_of g body))) l (padded (telegram_of g body)))
    (sym (same_tables addresses after p.fits))
    ∙ ap of_summary (sym p.whole)

-- nobody answers a reply
pub never_turns : {X : Type 0} {addresses places tables : List ℕ} {before : ℕ} {h : Head} {body after : List ℕ} {gone : ℕ} {g : Head} {reply : List ℕ} →
    h.function ≡ Reply → LegTurns addresses places tables before h body after gone g reply → X
never_turns e p = let r = p.request in cc

-- a telegram that was read, and the parts of it that are lent: its block from start on, and its body from n on
module _ (read : Header) (tg addresses tables : List ℕ) (order : reading Station tg ≡ sound (head_of read (drop (block_start read.form) tg)))
    (set : set_up addresses tables ≡ true) {start n : ℕ} (begins : start ≡ block_start read.form) (long : (slice : List ℕ) → n ≡ header_length (head_of read slice)) where
  abbrev slice : List ℕ
  slice = take (length tg - start) (drop start tg)

  abbrev body : List ℕ
  body = take (length tg - n) (drop n tg)

  pub whole_run : of_summary (summary_from 0 (net_of addresses tables) (head_of read slice) body)
      ≡ of_summary (summary_of 0 (playing most_transmissions (net_of addresses tables) tg))
  whole_run =
      ap (λ (l : List ℕ). of_summary (summary_of 0 (playing most_transmissions (net_of addresses tables) l))) (whole_telegram read tg order begins long)
