-- What the journey of a telegram shows of a net: its stations, and no register but of its destination.
-- Assumes nothing.
use Rattle.std.specs.Prelude.{◌≡◌, true, List, ℕ}
use Rattle.mop_header.specs.Header.{Head}
use Rattle.mop_reader.specs.Reading.{sound, reading}
use Rattle.mop_reader.specs.declared.Reader.TheVariants.{Station}
use Rattle.net_journey.specs.Net.{Net, addresses_of, good_net, table_at}
use Rattle.net_journey.specs.Journey.{Course, Journey}
use Rattle.net_journey.specs.Terms.{before_zeros}

-- two nets have the same table at the destination of a telegram: the station before its block's 00s, of a request or a reply,
-- wherever on its way. Nothing is asked of a telegram with a fault in its header; and a station that is in neither net has the
-- same table in both, an empty one
abbrev pub SameAtDestination : List ℕ → Net → Net → Type 0
SameAtDestination tg net net' = (h : Head) → reading Station tg ≡ sound h → (let a = before_zeros h.block in table_at a net ≡ table_at a net')

-- all that can be heard of two journeys is the same: the transmissions, what the called stations gave, and the ending
pub record SameCourse (c d : Course) : Type 0 where
  pub transmissions : c.transmissions ≡ d.transmissions
  pub answers : c.answers ≡ d.answers
  pub ending : c.ending ≡ d.ending

-- so it is in any two good nets with the same stations and the same table at the destination
abbrev pub JourneysIsolated : Type 0
JourneysIsolated =
    (tg : List ℕ) (net net' : Net) (c d : Course) → good_net net ≡ true → good_net net' ≡ true → addresses_of net ≡ addresses_of net' →
    SameAtDestination tg net net' → Journey net tg c → Journey net' tg d → SameCourse c d

-- and whatever the tables of the destination, a station with the same table in both nets has the same one in both afterwards: no
-- register gets from one station to another, from where a later telegram could fetch it
abbrev pub TablesIsolated : Type 0
TablesIsolated =
    (tg : List ℕ) (net net' : Net) (c d : Course) → good_net net ≡ true → good_net net' ≡ true → addresses_of net ≡ addresses_of net' →
    Journey net tg c → Journey net' tg d → (a : ℕ) → table_at a net ≡ table_at a net' → table_at a c.after ≡ table_at a d.after

-- a good net is one afterwards too
abbrev pub StaysGood : Type 0
StaysGood = (tg : List ℕ) (net : Net) (c : Course) → good_net net ≡ true → Journey net tg c → good_net c.after ≡ true
