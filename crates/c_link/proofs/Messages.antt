-- No message is longer than a block holds, and what is sent is a byte.
-- Assumes nothing.
use mathlib.Core.Path.{◌≡◌, refl}
use mathlib.Core.Bool.{Bool, true, false, ◌||◌}
use mathlib.Core.List.{List}
use Prim.Native.Nat.{ℕ, ◌≤◌}
use native.Mathlib.Omega.{arith}
use borrow.Author.Tests.{ltb-false}
use lib.Dec.{eqb, ltb}
use lib.Bits.{bit_xor}
use lib.ListN.{length}
use Rattle.base.specs.Choice.{pick}
use Rattle.base.proofs.Choice.{pick_either}
use Rattle.link_frame.specs.Frame.{max_data}
use Rattle.link_frame.specs.ControlBytes.{STX, ETX, DLE, NAK}
use Rattle.link_receive.specs.Receive.{refuses, Reaction, Outcome, with, at, to, rest_of, no_room, Storing, after_store, store_of, data_of, inside_of, waiting_of, byte_of, timer_of, event_of, against, receive_of}
use Rattle.link_receive.specs.declared.Dle.{Dle}
use Rattle.link_receive.specs.declared.Dle.TheVariants.{Seen, NotSeen}
use Rattle.link_receive.specs.declared.Phase.{Phase}
use Rattle.link_receive.specs.declared.Phase.TheVariants.{Rest, Inside, Waiting}
use Rattle.link_receive.specs.declared.LinkState.{LinkState}
use Rattle.events.specs.declared.Event.{Event}
use Rattle.events.specs.declared.Event.TheVariants.{Byte, Timer}
use Rattle.c_link.specs.Private.Small.{SmallResponse}

abbrev short : Reaction → Type 0
short r = SmallResponse r.response

abbrev short_out : Outcome → Type 0
short_out o = short o.reaction

rest_short : (b : ℕ) → short (rest_of b)
unfolding rest_of
rest_short b =
    pick_either short (eqb b STX) (omega arith) (pick_either short (eqb b NAK) tt (omega arith))

data_short : (n c b : ℕ) (buf : List ℕ) → short_out (data_of n c b buf)
unfolding data_of store_of after_store
data_short n c b buf =
    pick_either (λ (s : Storing). short (after_store s.stored)) (no_room n buf) (omega arith) tt

inside_short : (d : Dle) (n c b : ℕ) (buf : List ℕ) → short_out (inside_of d n c b buf)
unfolding inside_of
inside_short NotSeen n c b buf =
    pick_either short_out (eqb b DLE) tt (data_short n c b buf)
inside_short Seen n c b buf = pick_either short_out (eqb b DLE) (data_short n c b buf) (pick_either short_out (eqb b ETX) tt (omega arith))

waiting_short : (n c b : ℕ) → n ≤ max_data → short (waiting_of n c b)
unfolding waiting_of
waiting_short n c b most = pick_either short (eqb b c) most (omega arith)

event_short : (e : Event) (p : Phase) (n c : ℕ) (buf : List ℕ) → n ≤ max_data → short_out (event_of e (at p n c) buf)
unfolding event_of byte_of timer_of
event_short (Byte b) Rest n c buf most = rest_short b
event_short (Byte b) (Inside d) n c buf most = inside_short d n (bit_xor c b) b buf
event_short (Byte b) Waiting n c buf most = waiting_short n c b most
event_short Timer Rest n c buf most = tt
event_short Timer (Inside d) n c buf most = omega arith
event_short Timer Waiting n c buf most = omega arith

by_limit : (s : LinkState) (e : Event) (buf : List ℕ) (t u : Bool) → ltb max_data s.count ≡ u →
    short_out (pick (t || u) (with (to (refuses 1) s) buf) (event_of e s buf))
by_limit s e buf true u is = tt
by_limit s e buf false true is = tt
by_limit s e buf false false is = event_short e s.phase s.count s.check buf (ltb-false max_data s.count is)

pub response_small : (s : LinkState) (e : Event) (buf : List ℕ) → SmallResponse (receive_of s e buf).reaction.response
unfolding receive_of against
response_small s e buf = by_limit s e buf (ltb (length buf) s.count) (ltb max_data s.count) refl
