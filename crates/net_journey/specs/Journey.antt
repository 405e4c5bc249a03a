-- The journey of a telegram over a net of stations.
-- Assumes nothing.
use Rattle.std.specs.Prelude.{ℕ, zero, suc, ◌≤◌, ◌≡◌, List, [], ◌∷◌, length, take}
use Rattle.base.specs.Choice.{pick}
use Rattle.mop_block.specs.Block.{first}
use Rattle.mop_reader.specs.Reading.{Reading, sound, faulty, reading}
use Rattle.mop_reader.specs.declared.Reader.TheVariants.{Station}
use Rattle.mop_station.specs.Station.{Handled, sent, refuses, Handling, handling}
use Rattle.net_journey.specs.Net.{Net, is_there, table_at, with_table}

-- how a journey ends: with a 00 first, with an address first that nobody has, or with the number of a refusal
pub data Ending : Type 0 where
  at_zero : Ending
  at_nobody : Ending
  refused_with : ℕ → Ending

-- who is called with a telegram: no station, and the journey ends; or the one with this address and this table
pub data Handler : Type 0 where
  no_station : Ending → Handler
  station : ℕ → List ℕ → Handler

-- the station that an entry names
unfoldable pub named : ℕ → Net → Handler
named zero net = no_station at_zero
named (suc a) net = pick (is_there (suc a) net) (station (suc a) (table_at (suc a) net)) (no_station at_nobody)

-- a telegram with a fault of its header, 12 or 2 to 6, has no first entry: every station refuses it, with the same number. Any
-- other is for the station that its first block entry names
unfoldable pub addressee : Reading → Net → Handler
addressee (faulty k) net = no_station (refused_with k)
addressee (sound h) net = named (first h.block) net

unfoldable pub handler : Net → List ℕ → Handler
handler net tg = addressee (reading Station tg) net

-- what a journey comes to: its transmissions in order, the first telegram included; what the stations called with them gave,
-- one for each but a last one that no station was called with; the net afterwards; and how it ended
pub record Course : Type 0 where
  pub transmissions : List (List ℕ)
  pub answers : List Handled
  pub after : Net
  pub ending : Ending

-- one transmission, and no station called
abbrev pub unheard : List ℕ → Net → Ending → Course
unheard tg net e = record { transmissions = tg ∷ []; answers = []; after = net; ending = e }

-- one transmission, and the station called with it refuses
abbrev pub refusal : List ℕ → Net → ℕ → Course
refusal tg net k = record { transmissions = tg ∷ []; answers = refuses k ∷ []; after = net; ending = refused_with k }

-- one transmission, the station called with it sends so many bytes, and these come to the rest
abbrev pub onward : List ℕ → ℕ → Course → Course
onward tg n rest =
    record { transmissions = tg ∷ rest.transmissions; answers = sent n ∷ rest.answers; after = rest.after; ending = rest.ending }

-- the least length of the output that a called station is lent
abbrev pub call_output : ℕ
call_output = 1024

-- the net as a call of a station leaves it
abbrev pub left_by : ℕ → Handling → Net → Net
left_by a h net = with_table a h.registers net

-- "journey", from a net and a first telegram. While the telegram is for a station of the net, that station is called with it, its
-- table as it then is, and any output long enough; each call does what `handling` says, which is what the station's code is
-- proved to do. The bytes sent, the first places of the output, are the next transmission. It ends where no station is called or
-- the called one refuses. An answer "not mine" has no rule here: that every telegram has a journey shows that none is given.
pub data Journey : Net → List ℕ → Course → Type 0 where
  ends : {net : Net} {tg : List ℕ} {e : Ending} → handler net tg ≡ no_station e → Journey net tg (unheard tg net e)
  refused : {net : Net} {tg t : List ℕ} {a k : ℕ} → handler net tg ≡ station a t →
      (out : List ℕ) → call_output ≤ length out → (handling a t tg out).handled ≡ refuses k →
      Journey net tg (refusal tg (left_by a (handling a t tg out) net) k)
  sends : {net : Net} {tg t : List ℕ} {a n : ℕ} {rest : Course} → handler net tg ≡ station a t →
      (out : List ℕ) → call_output ≤ length out → (handling a t tg out).handled ≡ sent n →
      Journey (left_by a (handling a t tg out) net) (take n (handling a t tg out).output) rest →
      Journey net tg (onward tg n rest)
