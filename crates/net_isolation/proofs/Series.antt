-- Telegrams one after the other: what was the same in both nets stays so, and so each is as the first.
-- Assumes nothing.
use mathlib.Core.Path.{◌≡◌, sym, ◌∙◌, ap}
use mathlib.Core.Bool.{true}
use mathlib.Core.List.{List}
use Prim.Native.Nat.{ℕ}
use Rattle.net_journey.specs.Net.{Net, addresses_of, good_net}
use Rattle.net_journey.specs.Journey.{Course, Journey}
use Rattle.net_journey.proofs.Whole.{every_journey}
use Rattle.net_isolation.specs.Series.{Series, EachIsolated, over, next, SeriesIsolated}
use Rattle.net_isolation.proofs.Journeys.{Kept, journeys_isolated, tables_isolated, stays_good}

-- a journey leaves the stations
same_after : (net : Net) (tg : List ℕ) (c : Course) → good_net net ≡ true → Journey net tg c → addresses_of c.after ≡ addresses_of net
same_after net tg c good j =
    let the = every_journey net tg good in
    ap (λ (x : Course). addresses_of x.after) (the.only c j) ∙ the.demand3.same_stations

-- begun in first and first', and come to net and net'
series_from : (first first' : Net) (tgs : List (List ℕ)) (net net' : Net) (cs ds : List Course) →
    Kept first first' net net' → good_net net ≡ true → good_net net' ≡ true → addresses_of net ≡ addresses_of net' →
    Series net tgs cs → Series net' tgs ds → EachIsolated first first' tgs cs ds
series_from first first' tgs net net' cs ds kept good good' stations over over = over
series_from first first' tgs net net' cs ds kept good good' stations (next {tg = tg} {c = c} {tgs = more} {cs = later} i is) (next {c = d} {cs = later'} j js) =
    next (λ same. journeys_isolated tg net net' c d good good' stations (λ h e. kept _ (same h e)) i j)
    (series_from first first' more c.after d.after later later'
    (λ a e. tables_isolated tg net net' c d good good' stations i j a (kept a e)) (stays_good tg net c good i) (stays_good tg net' d good' j)
    (same_after net tg c good i ∙ stations ∙ sym (same_after net' tg d good' j)) is js)

pub series_isolated : SeriesIsolated
series_isolated tgs net net' cs ds good good' stations i j = series_from net net' tgs net net' cs ds (λ a e. e) good good' stations i j
