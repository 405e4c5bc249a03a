-- What holds of every event, case by case of the table.
-- Assumes nothing.
use Prim.Native.Nat.{ℕ, ◌+◌}
use mathlib.Core.Path.{◌≡◌, refl, ap, sym, ◌∙◌}
use mathlib.Core.Bool.{Bool, true, false, false≢true}
use mathlib.Core.List.{List}
use lib.Dec.{eqb}
use lib.ListN.{set, length-set}
use lib.Seq.{get_or-set_other}
use Rattle.base.proofs.Choice.{pick_either}
use Rattle.link_frame.specs.ControlBytes.{STX, ETX, DLE, NAK}
use Rattle.link_receive.specs.Receive.{Response, nothing, sends, delivers, Reaction, Outcome, Storing, at, to, with, resting, no_room, against, after_store, byte_of, data_of, event_of, inside_of, receive_of, rest_of, store_of, timer_of, waiting_of}
use Rattle.link_receive.specs.declared.Dle.{Dle}
use Rattle.link_receive.specs.declared.Dle.TheVariants.{Seen, NotSeen}
use Rattle.events.specs.declared.Event.{Event}
use Rattle.events.specs.declared.Event.TheVariants.{Byte, Timer}
use Rattle.link_receive.specs.declared.LinkState.{LinkState}
use Rattle.link_receive.specs.declared.Phase.{Phase}
use Rattle.link_receive.specs.declared.Phase.TheVariants.{Rest, Inside, Waiting}
use Rattle.link_laws.specs.Events.{OnlyAt, WritesAtCount, Settled, RestIsClear}

abbrev is_rest : Phase → Bool
is_rest Rest = true
is_rest (Inside d) = false
is_rest Waiting = false

module _ (n : ℕ) (buf : List ℕ) where
  -- the two laws, of an outcome at count n
  abbrev Lawful : Outcome → Type 0
  Lawful o = OnlyAt n buf o.buffer × (o.reaction.next.phase ≡ Rest → Settled buf o)

  abbrev Kept : Reaction → Type 0
  Kept r = Lawful (with r buf)

  same : OnlyAt n buf buf
  same = record { long = refl; kept = λ i h. refl }

  one_store : (b : ℕ) → OnlyAt n buf (set buf n b)
  one_store b = record { long = length-set buf n b; kept = λ i h. get_or-set_other buf n i b 0 h }

  -- the half goes to rest, or goes on in another phase
  rests : (r : Response) → Kept (resting r)
  rests r = (same, λ h. record { clear = refl; kept = refl })

  goes_on : (r : Response) (p : Phase) (m c : ℕ) (new : List ℕ) → OnlyAt n buf new → is_rest p ≡ false → Lawful (with (to r (at p m c)) new)
  goes_on r p m c new only e = (only, λ h. absurd (false≢true (sym e ∙ ap is_rest h)))

  rest_lawful : (b : ℕ) → Kept (rest_of b)
  unfolding rest_of
  rest_lawful b =
      pick_either Kept (eqb b STX)
      (goes_on (sends DLE) (Inside NotSeen) 0 0 buf same refl)
      (pick_either Kept (eqb b NAK) (rests nothing) (rests (sends NAK)))

  data_lawful : (c b : ℕ) → Lawful (data_of n c b buf)
  unfolding data_of store_of after_store
  data_lawful c b =
      pick_either (λ (s : Storing). Lawful (with (after_store s.stored) s.buffer)) (no_room n buf)
      (rests (sends NAK))
      (goes_on nothing (Inside NotSeen) (n + 1) c (set buf n b) (one_store b) refl)

  inside_lawful : (d : Dle) (c b : ℕ) → Lawful (inside_of d n c b buf)
  unfolding inside_of
  inside_lawful NotSeen c b =
      pick_either Lawful (eqb b DLE) (goes_on nothing (Inside Seen) n c buf same refl) (data_lawful c b)
  inside_lawful Seen c b =
      pick_either Lawful (eqb b DLE)
      (data_lawful c b)
      (pick_either Lawful (eqb b ETX) (goes_on nothing Waiting n c buf same refl) (rests (sends NAK)))

  byte_lawful : (p : Phase) (c b : ℕ) → Lawful (byte_of p n c b buf)
  unfolding byte_of waiting_of
  byte_lawful Rest c b = rest_lawful b
  byte_lawful (Inside d) c b = inside_lawful d _ b
  byte_lawful Waiting c b = pick_either Kept (eqb b c) (rests (delivers DLE n)) (rests (sends NAK))

  timer_lawful : (p : Phase) → Kept (timer_of p)
  unfolding timer_of
  timer_lawful Rest = rests nothing
  timer_lawful (Inside d) = rests (sends NAK)
  timer_lawful Waiting = rests (sends NAK)

event_lawful : (e : Event) (s : LinkState) (buf : List ℕ) → Lawful s.count buf (event_of e s buf)
unfolding event_of
event_lawful (Byte b) s buf = byte_lawful s.count buf s.phase s.check b
event_lawful Timer s buf = timer_lawful s.count buf s.phase

pub writes_at_count : WritesAtCount
unfolding receive_of
writes_at_count s e buf =
    pick_either (λ (o : Outcome). OnlyAt s.count buf o.buffer) (against s.count buf)
    (same s.count buf)
    (event_lawful e s buf).0

pub rest_is_clear : RestIsClear
unfolding receive_of
rest_is_clear s e buf good = rw good (event_lawful e s buf).1
