-- The count against the buffer and the limit: where a byte is stored, and where a state is not refused.
-- Assumes nothing.
use mathlib.Core.Path.{◌≡◌}
use mathlib.Core.List.{List}
use Prim.Native.Nat.{ℕ, ◌+◌, ◌≤◌, ◌<◌}
use borrow.Author.Tests.{le-leb, lt-leb, le-ltb}
use lib.ListN.{length, set}
use Rattle.std.specs.Prelude.{Some, None}
use Rattle.link_receive.specs.Receive.{at, storing, no_room, store_of, against, event_of, receive_of}
use Rattle.link_receive.specs.declared.Dle.TheVariants.{NotSeen}
use Rattle.events.specs.declared.Event.{Event}
use Rattle.link_receive.specs.declared.LinkState.{LinkState}
use Rattle.link_receive.specs.declared.Phase.TheVariants.{Inside}

module _ (n c b : ℕ) (buf : List ℕ) where
  -- no room: the buffer is full, or the limit is reached
  pub store_full : length buf ≤ n → store_of n c b buf ≡ storing None buf
  unfolding store_of no_room
  store_full h = simp (le-leb _ _ h)

  pub store_limit : n < length buf → 1024 ≤ n → store_of n c b buf ≡ storing None buf
  unfolding store_of no_room
  store_limit h k = simp (lt-leb _ _ h, le-leb _ _ k)

  pub store_room : n < length buf → n < 1024 → store_of n c b buf ≡ storing (Some (at (Inside NotSeen) (n + 1) c)) (set buf n b)
  unfolding store_of no_room
  store_room h k = simp (lt-leb _ _ h, lt-leb _ _ k)

module _ (s : LinkState) (e : Event) (buf : List ℕ) where
  pub receive_agrees : s.count ≤ length buf → s.count ≤ 1024 → receive_of s e buf ≡ event_of e s buf
  unfolding receive_of against
  receive_agrees h k = simp (le-ltb _ _ h, le-ltb _ _ k)
