-- The most transmissions of a journey; and the journey as a function, with that bound: what a program can play.
-- Assumes nothing.
use Rattle.std.specs.Prelude.{ℕ, zero, suc, ◌≤◌, ◌≡◌, true, List, length, take, replicate}
use Rattle.mop_header.specs.Header.{Head}
use Rattle.mop_reader.specs.Reading.{sound, reading}
use Rattle.mop_reader.specs.declared.Reader.TheVariants.{Station}
use Rattle.mop_station.specs.Station.{Handled, sent, not_mine, refuses, Handling, handling}
use Rattle.net_journey.specs.Net.{Net, good_net}
use Rattle.net_journey.specs.Journey.{at_zero, at_nobody, Handler, no_station, station, handler, Course, unheard, refusal, onward, call_output, left_by, Journey}
use Rattle.net_journey.specs.Terms.{m}

-- the most stations that a telegram without a fault in its header names: 32 entries, and one of them is 00
abbrev pub most_named : ℕ
most_named = 31

abbrev pub NamesAtMost31 : Type 0
NamesAtMost31 = (tg : List ℕ) (h : Head) → reading Station tg ≡ sound h → m h ≤ most_named

-- the most transmissions of a journey: 31 stations, out and back
abbrev pub most_transmissions : ℕ
most_transmissions = 62

abbrev pub AtMost62 : Type 0
AtMost62 = (net : Net) (tg : List ℕ) (c : Course) → good_net net ≡ true → Journey net tg c → length c.transmissions ≤ most_transmissions

-- the call of a station, with an output of 00s
unfoldable pub calling : ℕ → List ℕ → List ℕ → Handling
calling a t tg = handling a t tg (replicate call_output 0)

-- by what the called station gives; the rest is played by `rest`. "Not mine" is never given
abbrev pub answered : (Net → List ℕ → Course) → Net → List ℕ → List ℕ → Handled → Course
answered rest net tg output (sent n) = onward tg n (rest net (take n output))
answered rest net tg output (refuses k) = refusal tg net k
answered rest net tg output not_mine = unheard tg net at_nobody

abbrev pub called : (Net → List ℕ → Course) → Net → List ℕ → ℕ → Handling → Course
called rest net tg a h = answered rest (left_by a h net) tg h.output h.handled

abbrev pub heard_by : (Net → List ℕ → Course) → Net → List ℕ → Handler → Course
heard_by rest net tg (no_station e) = unheard tg net e
heard_by rest net tg (station a t) = called rest net tg a (calling a t tg)

-- at most so many transmissions are looked at. Where none is left the journey is given as ended; the bound above is never used up
unfoldable pub playing : ℕ → Net → List ℕ → Course
playing zero net tg = unheard tg net at_zero
playing (suc calls) net tg = heard_by (playing calls) net tg (handler net tg)

-- with that bound, for every good net and every list of bytes, this is the journey
abbrev pub PlaysTheJourney : Type 0
PlaysTheJourney = (net : Net) (tg : List ℕ) → good_net net ≡ true → Journey net tg (playing most_transmissions net tg)
