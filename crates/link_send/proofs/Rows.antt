-- The rows of the table, one law for each case of a byte and of the attempts that are left.
-- Assumes nothing.
use mathlib.Core.Path.{◌≡◌}
use mathlib.Core.List.{[], ◌∷◌}
use Prim.Native.Nat.{ℕ, ◌+◌, ◌≤◌, ◌<◌}
use native.Mathlib.Omega.{arith}
use borrow.Author.Tests.{eq-eqb, ne_eqb, lt-ltb, le-ltb}
use Rattle.link_frame.specs.ControlBytes.{STX, DLE}
use Rattle.link_send.specs.Send.{opening, block, sending, attempts, into, connection_fails, block_fails, collision, opening_byte, awaiting_byte}
use Rattle.link_send.specs.declared.SendPhase.TheVariants.{Opening, Awaiting, Sent, GaveUp}
use Rattle.link_send.specs.declared.Sender.{Sender}

module _ (s : Sender) where
  pub connection_again : s.failed.connections + 1 < s.limits.connections →
      connection_fails s ≡ sending (opening ∷ []) (into s (attempts (s.failed.connections + 1) s.failed.blocks) Opening)
  unfolding connection_fails
  connection_again h = simp (lt-ltb _ _ h)

  pub connection_last : s.limits.connections ≤ s.failed.connections + 1 →
      connection_fails s ≡ sending [] (into s (attempts s.limits.connections s.failed.blocks) GaveUp)
  unfolding connection_fails
  connection_last h = simp (le-ltb _ _ h)

  pub block_again : s.failed.blocks + 1 < s.limits.blocks →
      block_fails s ≡ sending (opening ∷ []) (into s (attempts 0 (s.failed.blocks + 1)) Opening)
  unfolding block_fails
  block_again h = simp (lt-ltb _ _ h)

  pub block_last : s.limits.blocks ≤ s.failed.blocks + 1 →
      block_fails s ≡ sending [] (into s (attempts s.failed.connections s.limits.blocks) GaveUp)
  unfolding block_fails
  block_last h = simp (le-ltb _ _ h)

  module _ (b : ℕ) where
    pub opening_dle : b ≡ DLE → opening_byte s b ≡ sending (block ∷ []) (into s s.failed Awaiting)
    unfolding opening_byte
    opening_dle e = simp (eq-eqb _ _ e)

    pub opening_stx : b ≡ STX → opening_byte s b ≡ collision s.priority s
    unfolding opening_byte
    opening_stx e = simp (ne_eqb b DLE (omega arith), eq-eqb _ _ e)

    pub opening_other : (b ≡ DLE → ⊥) → (b ≡ STX → ⊥) → opening_byte s b ≡ connection_fails s
    unfolding opening_byte
    opening_other d t = simp (ne_eqb _ _ d, ne_eqb _ _ t)

    pub awaiting_dle : b ≡ DLE → awaiting_byte s b ≡ sending [] (into s s.failed Sent)
    unfolding awaiting_byte
    awaiting_dle e = simp (eq-eqb _ _ e)

    pub awaiting_other : (b ≡ DLE → ⊥) → awaiting_byte s b ≡ block_fails s
    unfolding awaiting_byte
    awaiting_other d = simp (ne_eqb _ _ d)
