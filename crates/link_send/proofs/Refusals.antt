-- What a sender that is not refused has: limits of 1 to 255, no more attempts failed than these, and a half that agrees with
-- its buffer.
-- Assumes nothing.
use mathlib.Core.Path.{◌≡◌}
use mathlib.Core.Bool.{false, ◌||◌}
use mathlib.Core.List.{List}
use Prim.Native.Nat.{ℕ, ◌≤◌}
use borrow.Author.Tests.{ltb-false}
use lib.Dec.{ltb}
use Rattle.base.proofs.Tests.{neither}
use Rattle.link_send.specs.Send.{least, most, bad_limit, half_against, misset}
use Rattle.link_send.specs.declared.Sender.{Sender}

pub record Sound (s : Sender) (buf : List ℕ) : Type 0 where
  pub connections : (least ≤ s.limits.connections) × (s.limits.connections ≤ most)
  pub blocks : (least ≤ s.limits.blocks) × (s.limits.blocks ≤ most)
  pub failed_connections : s.failed.connections ≤ s.limits.connections
  pub failed_blocks : s.failed.blocks ≤ s.limits.blocks
  pub half : half_against s.phase buf ≡ false

limit : (n : ℕ) → bad_limit n ≡ false → (least ≤ n) × (n ≤ most)
unfolding bad_limit
limit n e =
    let both = neither (ltb n least) (ltb most n) e in
    (ltb-false _ _ both.0, ltb-false _ _ both.1)

pub sound : (s : Sender) (buf : List ℕ) → misset s buf ≡ false → Sound s buf
unfolding misset
sound s buf e =
    let c = ltb s.limits.connections s.failed.connections in
    let b = ltb s.limits.blocks s.failed.blocks in
    let limits = bad_limit s.limits.connections || bad_limit s.limits.blocks in
    let fifth = neither (limits || c || b) (half_against s.phase buf) e in
    let fourth = neither (limits || c) b fifth.0 in
    let third = neither limits c fourth.0 in
    let both = neither (bad_limit s.limits.connections) (bad_limit s.limits.blocks) third.0 in
    record {
      connections = limit _ both.0;
      blocks = limit _ both.1;
      failed_connections = ltb-false _ _ third.1;
      failed_blocks = ltb-false _ _ fourth.1;
      half = fifth.1;
    }
