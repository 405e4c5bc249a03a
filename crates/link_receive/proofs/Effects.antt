-- What an event does to the half and its buffer: one of three things.
-- Assumes nothing.
use Prim.Native.Nat.{ℕ, ◌+◌}
use mathlib.Core.Path.{◌≡◌, refl, sym}
use mathlib.Core.Bool.{Bool, true, false, false≢true}
use mathlib.Core.List.{List}
use lib.Bits.{bit_xor}
use lib.Dec.{eqb}
use lib.ListN.{set}
use Rattle.base.proofs.Choice.{pick_either}
use Rattle.link_frame.specs.ControlBytes.{STX, ETX, DLE, NAK}
use Rattle.link_receive.specs.Receive.{Response, nothing, sends, delivers, refuses, Reaction, Outcome, Storing, at, to, with, resting, no_room, after_store, byte_of, data_of, event_of, inside_of, rest_of, store_of, timer_of, waiting_of}
use Rattle.link_receive.specs.declared.Dle.{Dle}
use Rattle.link_receive.specs.declared.Dle.TheVariants.{Seen, NotSeen}
use Rattle.events.specs.declared.Event.{Event}
use Rattle.events.specs.declared.Event.TheVariants.{Byte, Timer}
use Rattle.link_receive.specs.declared.LinkState.{LinkState}
use Rattle.link_receive.specs.declared.Phase.{Phase}
use Rattle.link_receive.specs.declared.Phase.TheVariants.{Rest, Inside, Waiting}

abbrev pub is_rest : Phase → Bool
is_rest Rest = true
is_rest (Inside d) = false
is_rest Waiting = false

-- something is sent
abbrev pub is_answer : Response → Bool
is_answer nothing = false
is_answer (sends b) = true
is_answer (delivers b n) = true
is_answer (refuses k) = false

-- From phase p, with count n, an event does one of three things. The half comes to rest, and where p is another phase it also
-- answers; or it goes on in a phase that is not rest; or it stores a byte, and answers nothing. Only the last changes the buffer.
pub data Effect (p : Phase) (n : ℕ) (buf : List ℕ) : Outcome → Type 0 where
  rests : (r : Response) → (is_rest p ≡ false → is_answer r ≡ true) → Effect p n buf (with (resting r) buf)
  goes_on : (r : Response) (q : Phase) (m c : ℕ) → is_rest q ≡ false → Effect p n buf (with (to r (at q m c)) buf)
  stores : (b c : ℕ) → Effect p n buf (with (to nothing (at (Inside NotSeen) (n + 1) c)) (set buf n b))

module _ (n : ℕ) (buf : List ℕ) where
  -- of a reaction that keeps the buffer
  abbrev Kept : Phase → Reaction → Type 0
  Kept p r = Effect p n buf (with r buf)

  rest_effect : (b : ℕ) → Kept Rest (rest_of b)
  unfolding rest_of
  rest_effect b =
      pick_either (Kept Rest) (eqb b STX)
      (goes_on (sends DLE) (Inside NotSeen) 0 0 refl)
      (pick_either (Kept Rest) (eqb b NAK) (rests nothing (λ h. absurd (false≢true (sym h)))) (rests (sends NAK) (λ h. refl)))

  module _ (p : Phase) where
    data_effect : (c b : ℕ) → Effect p n buf (data_of n c b buf)
    unfolding data_of store_of after_store
    data_effect c b =
        pick_either (λ (s : Storing). Effect p n buf (with (after_store s.stored) s.buffer)) (no_room n buf)
        (rests (sends NAK) (λ h. refl))
        (stores b c)

    inside_effect : (d : Dle) (c b : ℕ) → Effect p n buf (inside_of d n c b buf)
    unfolding inside_of
    inside_effect NotSeen c b =
        pick_either (Effect p n buf) (eqb b DLE) (goes_on nothing (Inside Seen) n c refl) (data_effect c b)
    inside_effect Seen c b =
        pick_either (Effect p n buf) (eqb b DLE)
        (data_effect c b)
        (pick_either (Effect p n buf) (eqb b ETX) (goes_on nothing Waiting n c refl) (rests (sends NAK) (λ h. refl)))

  byte_effect : (p : Phase) (c b : ℕ) → Effect p n buf (byte_of p n c b buf)
  unfolding byte_of waiting_of
  byte_effect Rest c b = rest_effect b
  byte_effect (Inside d) c b = inside_effect (Inside d) d (bit_xor c b) b
  byte_effect Waiting c b =
      pick_either (Kept Waiting) (eqb b c) (rests (delivers DLE n) (λ h. refl)) (rests (sends NAK) (λ h. refl))

  timer_effect : (p : Phase) → Kept p (timer_of p)
  unfolding timer_of
  timer_effect Rest = rests nothing (λ h. absurd (false≢true (sym h)))
  timer_effect (Inside d) = rests (sends NAK) (λ h. refl)
  timer_effect Waiting = rests (sends NAK) (λ h. refl)

pub event_effect : (e : Event) (s : LinkState) (buf : List ℕ) → Effect s.phase s.count buf (event_of e s buf)
unfolding event_of
event_effect (Byte b) s buf = byte_effect s.count buf s.phase s.check b
event_effect Timer s buf = timer_effect s.count buf s.phase
