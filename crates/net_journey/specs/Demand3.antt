-- Demand 3: what holds of the whole journey of any telegram over any net.
-- Assumes nothing.
use Rattle.std.specs.Prelude.{ℕ, suc, ◌*◌, ◌≤◌, ◌≡◌, true, false, ◌⊎◌, length}
use mathlib.Core.List.{List, [], ◌∷◌, ◌++◌, map, tail}
use Rattle.mop_registers.specs.Rows.{table_length}
use Rattle.mop_block.specs.Block.{is_address, stations, first}
use Rattle.mop_header.specs.Header.{Head, body_of}
use Rattle.mop_reader.specs.Reading.{sound, faulty, reading}
use Rattle.mop_reader.specs.declared.Reader.TheVariants.{Station}
use Rattle.mop_step.specs.Body.{accepts, rejects, judged_body, reply_body}
use Rattle.mop_station.specs.Station.{Handled, sent, refuses, leaving, handling}
use Rattle.net_journey.specs.Net.{Net, addresses_of, good_net, is_there, all_there, up_to_missing, table_at, with_table}
use Rattle.mop_header.specs.declared.Function.TheVariants.{Request}
use Rattle.net_journey.specs.Terms.{m, Fresh, before_zeros, shows, shown, there_and_back, WrittenBy, destination, sent_only, all_ordinary, all_fine}
use Rattle.net_journey.specs.Journey.{Ending, at_zero, at_nobody, refused_with, Course, unheard, Journey}

-- what the journey of a fresh request comes to whose stations are all there and whose destination accepts the body. The replies
-- carry the read start and count as they came, and the values that the read run has after the writes
pub record Accomplished (net : Net) (h : Head) (body : List ℕ) (c : Course) : Type 0 where
  pub count : length c.transmissions ≡ 2 * m h
  pub passage : map shown c.transmissions ≡ there_and_back (stations h.block) body (reply_body body (table_at (destination h) c.after))
  pub ending : c.ending ≡ at_zero
  pub written : WrittenBy body (table_at (destination h) net) (table_at (destination h) c.after)
  pub others : c.after ≡ with_table (destination h) (table_at (destination h) c.after) net

-- what the journey of a fresh request comes to that is not answered: a request to each of these stations, this ending, and no table
-- changed
pub record Unanswered (net : Net) (body asked : List ℕ) (e : Ending) (c : Course) : Type 0 where
  pub passage : map shown c.transmissions ≡ map (λ (a : ℕ). shows Request a body) asked
  pub ending : c.ending ≡ e
  pub kept : c.after ≡ net

-- the one change that a journey can make, fresh or not: of a request that the station before the block's 00s accepts, that
-- station has the values of the body
pub record Carried (net : Net) (h : Head) (body : List ℕ) (c : Course) : Type 0 where
  pub request : h.function ≡ Request
  pub accepted : judged_body body ≡ accepts
  pub written : (let a = before_zeros h.block in WrittenBy body (table_at a net) (table_at a c.after))
  pub others : (let a = before_zeros h.block in c.after ≡ with_table a (table_at a c.after) net)

pub record Demand3 (net : Net) (tg : List ℕ) (c : Course) : Type 0 where
  -- a fault in the header, 12 or one of 2 to 6: every station refuses the telegram in the same way, the journey ends with it, and
  -- nothing changes
  pub fault_refused : (k : ℕ) → reading Station tg ≡ faulty k → (own : ℕ) (t out : List ℕ) → is_address own ≡ true → length t ≡ table_length →
      handling own t tg out ≡ leaving (refuses k) t out
  pub fault_ends : (k : ℕ) → reading Station tg ≡ faulty k → c ≡ unheard tg net (refused_with k)
  -- where m is 0, or the first entry is 00 or nobody's, none follows, and nothing changes
  pub none_named : (h : Head) → reading Station tg ≡ sound h → m h ≡ 0 → c ≡ unheard tg net at_zero
  pub zero_first : (h : Head) → reading Station tg ≡ sound h → first h.block ≡ 0 → c ≡ unheard tg net at_zero
  pub nobodys_first : (h : Head) → reading Station tg ≡ sound h → (first h.block ≡ 0 → ⊥) → is_there (first h.block) net ≡ false →
      c ≡ unheard tg net at_nobody
  -- m at least 1: at most 2m transmissions in all
  pub at_most : (h : Head) → reading Station tg ≡ sound h → 1 ≤ m h → length c.transmissions ≤ 2 * m h
  -- after a refused one none follows: if the station called with transmission i + 1 refuses, there are i + 1 in all
  pub refused_last : (earlier later : List Handled) (k : ℕ) → c.answers ≡ earlier ++ (refuses k ∷ later) →
      length c.transmissions ≡ suc (length earlier)
  -- a fresh request, all m stations there: its destination accepts it, or rejects it with k and there are m transmissions. One of
  -- them not there: the last transmission is the request to the first such
  pub accomplished : (h : Head) → reading Station tg ≡ sound h → Fresh h → all_there (stations h.block) net ≡ true →
      judged_body (body_of h tg) ≡ accepts → Accomplished net h (body_of h tg) c
  pub declined : (h : Head) → reading Station tg ≡ sound h → Fresh h → all_there (stations h.block) net ≡ true →
      (k : ℕ) → judged_body (body_of h tg) ≡ rejects k → Unanswered net (body_of h tg) (stations h.block) (refused_with k) c
  pub unreached : (h : Head) → reading Station tg ≡ sound h → Fresh h → all_there (stations h.block) net ≡ false →
      Unanswered net (body_of h tg) (up_to_missing (stations h.block) net) at_nobody c
  -- accepted or not, and whatever the first telegram was, all tables stay except that of the station before the 00s
  pub others_kept : (h : Head) → reading Station tg ≡ sound h → (a : ℕ) → (a ≡ before_zeros h.block → ⊥) →
      table_at a c.after ≡ table_at a net
  -- and that one only by the values of a request that it accepts
  pub changes : (h : Head) → reading Station tg ≡ sound h → (c.after ≡ net) ⊎ Carried net h (body_of h tg) c
  -- no station comes or goes
  pub same_stations : addresses_of c.after ≡ addresses_of net
  -- every transmission behind the first was sent by a called station, which gave its length
  pub sent_next : sent_only c.answers ≡ map (λ (next : List ℕ). sent (length next)) (tail c.transmissions)
  -- where the journey ends with a refusal no table has changed; and unless the first telegram has a fault, a called station gave it
  pub refused_keeps : (k : ℕ) → c.ending ≡ refused_with k → c.after ≡ net
  pub refused_by : (h : Head) → reading Station tg ≡ sound h → (k : ℕ) → c.ending ≡ refused_with k →
      (earlier : List Handled) × (c.answers ≡ earlier ++ (refuses k ∷ []))
  -- if the first telegram has no such fault, no transmission has one; and no called station gives 1, 11, 12, 2 to 6 or "not mine"
  pub all_fine_lem : (h : Head) → reading Station tg ≡ sound h → all_fine c.transmissions ≡ true
  pub all_ordinary_lem : (h : Head) → reading Station tg ≡ sound h → all_ordinary c.answers ≡ true

-- a first telegram has a journey, only one, and demand 3 holds of it
pub record TheJourney (net : Net) (tg : List ℕ) : Type 0 where
  pub course : Course
  pub journey : Journey net tg course
  pub only : (c : Course) → Journey net tg c → c ≡ course
  pub demand3 : Demand3 net tg course

-- the theorem: so it is for every good net and every list of bytes
abbrev pub EveryJourney : Type 0
EveryJourney = (net : Net) (tg : List ℕ) → good_net net ≡ true → TheJourney net tg
