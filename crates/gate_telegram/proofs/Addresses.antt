-- Which addresses a telegram can be written for.
-- Assumes nothing.
use mathlib.Core.Path.{◌≡◌}
use Prim.Native.Nat.{ℕ}
use borrow.Author.Tests.{ne_eqb}
use Rattle.gate_telegram.specs.Telegram.{reserved, slave_token, bad_addresses}

-- neither is FF: the token decides
pub addresses_token : (d s n : ℕ) → (d ≡ reserved → ⊥) → (s ≡ reserved → ⊥) → bad_addresses d s n ≡ slave_token d s n
unfolding bad_addresses
addresses_token d s n had e = simp (ne_eqb _ _ had, ne_eqb _ _ e)
