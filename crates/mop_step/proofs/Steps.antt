-- The step of a station, case by case.
-- Assumes nothing.
use mathlib.Core.Path.{◌≡◌, refl, sym, ◌∙◌}
use mathlib.Core.Bool.{Bool, true, false, not}
use mathlib.Core.List.{List}
use Prim.Native.Nat.{ℕ, zero, suc, ◌+◌, ◌≤◌, ◌<◌}
use borrow.Author.Tests.{eq-eqb, ne_eqb, lt-ltb, le-ltb, leb-true, leb-false, not-true, not-false}
use lib.Dec.{leb}
use lib.ListN.{length}
use Rattle.base.specs.Places.{placed}
use Rattle.mop_block.specs.Block.{first, next}
use Rattle.mop_header.specs.Header.{Head, header_length, telegram_of}
use Rattle.mop_header.specs.declared.Function.{Function}
use Rattle.mop_header.specs.declared.Function.TheVariants.{Request, Reply}
use Rattle.mop_header.proofs.Writing.{length_telegram}
use Rattle.mop_step.specs.Body.{accepts, judged_body, after_writes, reply_body}
use Rattle.mop_step.specs.Step.{relays, answers, not_mine, refuses, Step, step, is_station, if_room, relayed, relaying, replied, answering, acting, stepping, step_call, lending}

-- by the room
module _ (room : ℕ) (telegram t : List ℕ) (s : Step) where
  pub no_room : room < length telegram → if_room room telegram t s ≡ step (refuses 11) t
  unfolding if_room
  no_room l = rw (lt-ltb room (length telegram) l)

  pub some_room : length telegram ≤ room → if_room room telegram t s ≡ s
  unfolding if_room
  some_room l = rw (le-ltb room (length telegram) l)

module _ (h : Head) (body t : List ℕ) (room : ℕ) where
  module _ {on : Head} (e : on ≡ relayed h.function h) where
    pub relay_short : room < length (telegram_of on body) → relaying h body t room ≡ step (refuses 11) t
    unfolding relaying
    relay_short l = rw (← e) (no_room room (telegram_of on body) t (step (relays on) t) l)

    pub relay_sent : length (telegram_of on body) ≤ room → relaying h body t room ≡ step (relays on) t
    unfolding relaying
    relay_sent l = rw (← e) (some_room room (telegram_of on body) t (step (relays on) t) l)

  pub answer_short : room < length (telegram_of (replied h) (reply_body body (after_writes body t))) → answering accepts h body t room ≡ step (refuses 11) t
  unfolding answering
  answer_short l = no_room room (telegram_of (replied h) (reply_body body (after_writes body t))) t _ l

  pub answer_sent : length (telegram_of (replied h) (reply_body body (after_writes body t))) ≤ room →
      answering accepts h body t room ≡ step (answers (replied h) (reply_body body (after_writes body t))) (after_writes body t)
  unfolding answering
  answer_sent l = some_room room (telegram_of (replied h) (reply_body body (after_writes body t))) t _ l

  -- by the function and the entry behind the own one
  behind_station : (n : ℕ) → (n ≡ 0 → ⊥) → acting Request n h body t room ≡ relaying h body t room
  unfolding acting
  behind_station zero z = absurd (z refl)
  behind_station (suc n) z = refl

  module _ {f : Function} {n : ℕ} where
    pub to_destination : f ≡ Request → n ≡ 0 → acting f n h body t room ≡ answering (judged_body body) h body t room
    unfolding acting
    to_destination e z = rw (e, z)

    pub to_relay : f ≡ Request → (n ≡ 0 → ⊥) → acting f n h body t room ≡ relaying h body t room
    to_relay e z = rw e (behind_station n z)

  pub reply_to_relay : {f : Function} (n : ℕ) → f ≡ Reply → acting f n h body t room ≡ relaying h body t room
  unfolding acting
  reply_to_relay n e = rw e

-- by the own address and the table, then by the first entry
module _ (own : ℕ) (h : Head) (body t : List ℕ) (room : ℕ) where
  pub no_station : is_station own t ≡ false → stepping own h body t room ≡ step (refuses 1) t
  unfolding stepping
  no_station e = rw e

  module _ (set : is_station own t ≡ true) where
    pub for_another : (first h.block ≡ own → ⊥) → stepping own h body t room ≡ step not_mine t
    unfolding stepping
    for_another n = rw (set, ne_eqb (first h.block) own n)

    pub for_this : first h.block ≡ own → stepping own h body t room ≡ acting h.function (next h.block) h body t room
    unfolding stepping
    for_this e = rw (set, eq-eqb (first h.block) own e)

-- by what was found of the room
module _ (g : Head) (body : List ℕ) (room : ℕ) {n : ℕ} {fits : Bool} (size : n ≡ length body) (found : fits ≡ leb (header_length g + n) room) where
  pub short_by : not fits ≡ true → room < length (telegram_of g body)
  short_by e = rw (length_telegram g body, ← size) (leb-false (header_length g + n) room (sym found ∙ not-true fits e))

  pub room_by : not fits ≡ false → length (telegram_of g body) ≤ room
  room_by e = rw (length_telegram g body, ← size) (leb-true (header_length g + n) room (sym found ∙ not-false fits e))

-- an answer, by the places of the buffer for its body
module _ (g : Head) (body after t reply : List ℕ) where
  pub no_place : length reply < length body → lending (step (answers g body) after) t reply ≡ step_call (refuses 11) t 0 reply
  unfolding lending
  no_place l = rw (lt-ltb (length reply) (length body) l)

  pub in_place : length body ≤ length reply → lending (step (answers g body) after) t reply ≡ step_call (answers g body) after (length body) (placed body reply)
  unfolding lending
  in_place l = rw (le-ltb (length reply) (length body) l)
