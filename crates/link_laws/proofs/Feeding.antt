-- One byte more is fed, in each case that a frame goes through.
-- Assumes nothing.
use mathlib.Core.Path.{◌≡◌, refl, ap, ◌∙◌}
use mathlib.Core.List.{List, [], ◌∷◌}
use Prim.Native.Nat.{ℕ, ◌+◌, ◌≤◌, ◌<◌}
use native.Mathlib.Omega.{arith}
use lib.Bits.{bit_xor}
use lib.ListN.{length, set}
use Rattle.link_frame.specs.ControlBytes.{STX, ETX, DLE}
use Rattle.link_receive.specs.Receive.{Reaction, Outcome, nothing, sends, delivers, at, to, with, after_store, data_of, byte_of, event_of, receive_of}
use Rattle.link_receive.specs.declared.Dle.TheVariants.{Seen, NotSeen}
use Rattle.events.specs.declared.Event.TheVariants.{Byte}
use Rattle.link_receive.specs.declared.LinkState.{LinkState}
use Rattle.link_receive.specs.declared.Phase.TheVariants.{Rest, Inside, Waiting}
use Rattle.link_receive.proofs.Bounds.{store_room, receive_agrees}
use Rattle.link_receive.proofs.Rows.{rest_stx, inside_dle, inside_data, seen_dle, seen_etx, right_check}
use Rattle.link_laws.specs.Feeding.{after, feed}

pub fed_none : (s : LinkState) (buf : List ℕ) → feed s buf [] ≡ record { answers = []; state = s; buffer = buf }
unfolding feed
fed_none s buf = refl

fed : (s : LinkState) (buf : List ℕ) (b : ℕ) (bs : List ℕ) {o : Outcome} → receive_of s (Byte b) buf ≡ o →
    feed s buf (b ∷ bs) ≡ after (o.reaction.response ∷ []) (feed o.reaction.next o.buffer bs)
unfolding feed
fed s buf b bs e = ap (λ (o : Outcome). after (o.reaction.response ∷ []) (feed o.reaction.next o.buffer bs)) e

-- a byte at a state that agrees with its buffer
byte : (s : LinkState) (buf : List ℕ) (b : ℕ) → s.count ≤ length buf → s.count ≤ 1024 →
    receive_of s (Byte b) buf ≡ byte_of s.phase s.count s.check b buf
unfolding event_of
byte s buf b h k = receive_agrees s (Byte b) buf h k

-- a data byte for which there is room
stored : (n c b : ℕ) (buf : List ℕ) → n < length buf → n < 1024 →
    data_of n c b buf ≡ with (to nothing (at (Inside NotSeen) (n + 1) c)) (set buf n b)
unfolding data_of after_store
stored n c b buf h k = rw (store_room n c b buf h k)

pub fed_stx : (c : ℕ) (buf bs : List ℕ) → feed (at Rest 0 c) buf (STX ∷ bs) ≡ after (sends DLE ∷ []) (feed (at (Inside NotSeen) 0 0) buf bs)
unfolding byte_of
fed_stx c buf bs = fed _ _ _ bs (byte (at Rest 0 c) buf STX (omega arith) (omega arith) ∙ ap (λ (r : Reaction). with r buf) (rest_stx STX refl))

module _ (n c b : ℕ) (buf bs : List ℕ) (h : n < length buf) (k : n < 1024) where
  -- a data byte that is no DLE
  pub fed_data : (b ≡ DLE → ⊥) →
      feed (at (Inside NotSeen) n c) buf (b ∷ bs)
      ≡ after (nothing ∷ []) (feed (at (Inside NotSeen) (n + 1) (bit_xor c b)) (set buf n b) bs)
  unfolding byte_of
  fed_data d =
      fed _ _ _ bs
      (byte (at (Inside NotSeen) n c) buf b (omega arith) (omega arith)
      ∙ inside_data n (bit_xor c b) b buf d
      ∙ stored n (bit_xor c b) b buf h k)

  -- the second DLE of a pair
  pub fed_second : b ≡ DLE →
      feed (at (Inside Seen) n c) buf (b ∷ bs)
      ≡ after (nothing ∷ []) (feed (at (Inside NotSeen) (n + 1) (bit_xor c b)) (set buf n b) bs)
  unfolding byte_of
  fed_second d =
      fed _ _ _ bs
      (byte (at (Inside Seen) n c) buf b (omega arith) (omega arith)
      ∙ seen_dle n (bit_xor c b) b buf d
      ∙ stored n (bit_xor c b) b buf h k)

module _ (n c : ℕ) (buf bs : List ℕ) (h : n ≤ length buf) (k : n ≤ 1024) where
  -- the first DLE of a pair
  pub fed_first : (b : ℕ) → b ≡ DLE →
      feed (at (Inside NotSeen) n c) buf (b ∷ bs) ≡ after (nothing ∷ []) (feed (at (Inside Seen) n (bit_xor c b)) buf bs)
  unfolding byte_of
  fed_first b d = fed _ _ _ bs (byte (at (Inside NotSeen) n c) buf b h k ∙ inside_dle n (bit_xor c b) b buf d)

  pub fed_etx : feed (at (Inside Seen) n c) buf (ETX ∷ bs) ≡ after (nothing ∷ []) (feed (at Waiting n (bit_xor c ETX)) buf bs)
  unfolding byte_of
  fed_etx = fed _ _ _ bs (byte (at (Inside Seen) n c) buf ETX h k ∙ seen_etx n (bit_xor c ETX) ETX buf refl)

  pub fed_check : feed (at Waiting n c) buf (c ∷ bs) ≡ after (delivers DLE n ∷ []) (feed (at Rest 0 0) buf bs)
  unfolding byte_of
  fed_check = fed _ _ _ bs (byte (at Waiting n c) buf c h k ∙ ap (λ (r : Reaction). with r buf) (right_check n c c refl))
