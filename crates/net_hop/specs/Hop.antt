-- One hop of a journey on a header, over tables end to end.
-- Assumes nothing.
use Rattle.std.specs.Prelude.{ℕ, zero, suc, ◌*◌, List, [], ◌∷◌, ◌++◌, ltb, length, get_or, take, drop, set, replicate}
use Rattle.base.specs.Choice.{pick}
use Rattle.refusal.specs.Numbers.{number_of}
use Rattle.mop_registers.specs.Rows.{table_length}
use Rattle.mop_block.specs.Block.{first}
use Rattle.mop_header.specs.Header.{Head, head_of}
use Rattle.mop_step.specs.Step.{Stepped, not_mine, refuses, StepCall, stepping, lending}
use Rattle.mop_step.specs.Step as step
use Rattle.net_journey.specs.Journey.{Ending, at_zero, at_nobody, refused_with, call_output}
use Rattle.net_hop.specs.Tables.{max_stations}
use Rattle.net_hop.specs.declared.JourneyEnd.{JourneyEnd}
use Rattle.net_hop.specs.declared.JourneyEnd.TheVariants.{AtZero, AtNobody, Refused}
use Rattle.net_hop.specs.declared.HopAnswer.{HopAnswer}
use Rattle.net_hop.specs.declared.HopAnswer.TheVariants.{Relayed, Answered, Ended}

-- a table of places: at each address one more than the place of its station, and 0 where there is none. The next station has
-- place n
unfoldable pub placing : List ℕ → ℕ → List ℕ → List ℕ
placing places n [] = places
placing places n (a ∷ rest) = placing (set places a (suc n)) (suc n) rest

-- how many bytes there are
abbrev pub bytes : ℕ
bytes = 256

-- the places of stations, of which no more are looked at than a dry run has
unfoldable pub places_of : List ℕ → List ℕ
places_of addresses = placing (replicate bytes 0) 0 (take max_stations addresses)

-- the table of a place, and the tables with another one there
unfoldable pub table_of : ℕ → List ℕ → List ℕ
table_of place tables = take table_length (drop (table_length * place) tables)

unfoldable pub put_table : ℕ → List ℕ → List ℕ → List ℕ
put_table place t tables = take (table_length * place) tables ++ (t ++ drop table_length (drop (table_length * place) tables))

-- how a journey ended, in the words of the journey
abbrev pub ending_of : JourneyEnd → Ending
ending_of AtZero = at_zero
ending_of AtNobody = at_nobody
ending_of (Refused r) = refused_with (number_of r)

-- what a hop gives back: the telegram goes on with this header and its own body, or with this header and the body of a reply; or
-- the journey ended
pub data Hopped : Type 0 where
  relays : Head → Hopped
  answers : Head → List ℕ → Hopped
  ended : Ending → Hopped

-- that; how many bytes the body of a reply has, 0 where there is none; and the tables and the buffer for that body afterwards
pub record Hop : Type 0 where
  pub hopped : Hopped
  pub count : ℕ
  pub tables : List ℕ
  pub reply : List ℕ

abbrev pub hop : Hopped → ℕ → List ℕ → List ℕ → Hop
hop h n tables reply = record { hopped = h; count = n; tables = tables; reply = reply }

-- what the code gives: its headers stand beside the same slice, and the body of a reply is the first places of the buffer
abbrev pub hop_of : HopAnswer → List ℕ → List ℕ → List ℕ → Hop
hop_of (Relayed h) slice tables reply = hop (relays (head_of h slice)) 0 tables reply
hop_of (Answered h n) slice tables reply = hop (answers (head_of h slice) (take n reply)) n tables reply
hop_of (Ended e) slice tables reply = hop (ended (ending_of e)) 0 tables reply

-- by what the called station makes of the telegram. "Not mine" is never given, since its own entry is the first
unfoldable pub hopped_by : Stepped → Hopped
hopped_by (step.relays h) = relays h
hopped_by (step.answers h reply) = answers h reply
hopped_by (refuses k) = ended (refused_with k)
hopped_by not_mine = ended at_nobody

-- From here on h is the header of the telegram, and reply the buffer for the body of a reply.

-- the step of the station at a place, and what the call of it gives
unfoldable pub hop_by : StepCall → ℕ → List ℕ → Hop
hop_by c place tables = hop (hopped_by c.made.stepped) c.count (put_table place c.made.registers tables) c.reply

unfoldable pub step_at : ℕ → ℕ → Head → List ℕ → List ℕ → List ℕ → Hop
step_at a place h body tables reply = let t = table_of place tables in hop_by (lending (stepping a h body t call_output) t reply) place tables

-- by the first entry and what the table of places has there: 00 is no station; nobody has an address without a place, or with
-- one that the tables do not reach
unfoldable pub hop_at : ℕ → ℕ → Head → List ℕ → List ℕ → List ℕ → Hop
hop_at zero number h body tables reply = hop (ended at_zero) 0 tables reply
hop_at (suc a) zero h body tables reply = hop (ended at_nobody) 0 tables reply
hop_at (suc a) (suc place) h body tables reply =
    pick (ltb (length tables) (table_length * suc place)) (hop (ended at_nobody) 0 tables reply) (step_at (suc a) place h body tables reply)

-- the hop: the station that the first entry names makes its step, with its own table
unfoldable pub hopping : List ℕ → Head → List ℕ → List ℕ → List ℕ → Hop
hopping places h body tables reply = let a = first h.block in hop_at a (get_or places a 0) h body tables reply
