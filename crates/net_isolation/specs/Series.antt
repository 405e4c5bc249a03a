-- What the journeys of telegrams one after the other show of a net, whoever sends them.
-- Assumes nothing.
use Rattle.std.specs.Prelude.{◌≡◌, true, List, [], ◌∷◌, ℕ}
use Rattle.net_journey.specs.Net.{Net, addresses_of, good_net}
use Rattle.net_journey.specs.Journey.{Course, Journey}
use Rattle.net_isolation.specs.Journeys.{SameAtDestination, SameCourse}

-- telegrams one after the other: the journey of each in the net as the one before it left it
pub data Series : Net → List (List ℕ) → List Course → Type 0 where
  over : {net : Net} → Series net [] []
  next : {net : Net} {tg : List ℕ} {c : Course} {tgs : List (List ℕ)} {cs : List Course} →
      Journey net tg c → Series c.after tgs cs → Series net (tg ∷ tgs) (c ∷ cs)

-- of two series of the same telegrams, begun in two nets: each telegram whose destination had the same table in both nets, before the
-- first of them, has the same course in both
pub data EachIsolated (net net' : Net) : List (List ℕ) → List Course → List Course → Type 0 where
  over : EachIsolated net net' [] [] []
  next : {tg : List ℕ} {c d : Course} {tgs : List (List ℕ)} {cs ds : List Course} →
      (SameAtDestination tg net net' → SameCourse c d) → EachIsolated net net' tgs cs ds → EachIsolated net net' (tg ∷ tgs) (c ∷ cs) (d ∷ ds)

-- so it is in any two good nets with the same stations, whatever is sent to the others in between
abbrev pub SeriesIsolated : Type 0
SeriesIsolated =
    (tgs : List (List ℕ)) (net net' : Net) (cs ds : List Course) → good_net net ≡ true → good_net net' ≡ true → addresses_of net ≡ addresses_of net' →
    Series net tgs cs → Series net' tgs ds → EachIsolated net net' tgs cs ds
