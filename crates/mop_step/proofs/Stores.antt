-- What the body of a reply comes to in its buffer.
-- Assumes nothing.
use mathlib.Core.Path.{◌≡◌}
use mathlib.Core.List.{List, [], ◌∷◌}
use Prim.Native.Nat.{ℕ, ◌+◌, ◌*◌, ◌≤◌}
use native.Mathlib.Omega.{arith}
use lib.ListN.{length, take}
use lib.Seq.{sets}
use Rattle.base.specs.Words.{bytes_of}
use Rattle.base.specs.Places.{placed}
use Rattle.base.proofs.Places.{sets_placed}
use Rattle.mop_body.specs.Body.{reply_with}
use Rattle.base.proofs.Words.{length_bytes}

-- the first three bytes as they came and the values behind them, in the first places of a buffer that has room for them
pub reply_stored : (body values reply : List ℕ) {first : List ℕ} → 3 ≤ length body → 3 + 2 * length values ≤ length reply → first ≡ sets reply 0 (take 3 body) →
    sets first 3 (bytes_of values) ≡ placed (reply_with body values) reply
unfolding reply_with
reply_stored [] values reply b h e = absurd (omega arith)
reply_stored (x ∷ []) values reply b h e = absurd (omega arith)
reply_stored (x ∷ y ∷ []) values reply b h e = absurd (omega arith)
reply_stored (x ∷ y ∷ z ∷ body) values reply b h e =
    rw e (sets_placed (x ∷ y ∷ z ∷ bytes_of values) reply (omega (arith, length_bytes values)))
