-- Writing a header, and a telegram: the stores are the bytes, and these are the first places of the output.
-- Assumes nothing.
use mathlib.Core.Path.{◌≡◌, sym, ◌∙◌, ap}
use mathlib.Core.List.{List, ◌∷◌, ◌++◌}
use Prim.Native.Nat.{ℕ, ◌+◌, ◌≤◌, ◌<◌}
use native.Mathlib.Nat.{zero-add}
use lib.ListN.{length, drop, length-append}
use lib.Seq.{sets}
use Rattle.base.specs.Places.{placed}
use Rattle.base.specs.Filling.{denied, fitted}
use Rattle.base.proofs.Filling.{fitted_short, fitted_room}
use Rattle.base.proofs.Places.{sets_append, sets_placed}
use Rattle.refusal.specs.Writing.{filling_of}
use Rattle.std.specs.Prelude.{Ok}
use Rattle.mop_header.specs.Header.{Head, function_byte, address_bytes, header_bytes, header_length, telegram_of}
use Rattle.mop_header.specs.declared.Form.TheVariants.{Standard, Extended}

-- bytes copied over the first places
pub copied_first : (bytes out : List ℕ) → length bytes ≤ length out → bytes ++ drop (length bytes) out ≡ sets out 0 bytes
unfolding placed
copied_first bytes out h = sym (sets_placed bytes out h)

module _ (h : Head) (out : List ℕ) {byte : ℕ} {b : List ℕ} (function : byte ≡ function_byte h.function) (block : b ≡ h.block) where
  pub standard_stored : h.form ≡ Standard → sets out 0 (byte ∷ h.control ∷ b) ≡ sets out 0 (header_bytes h)
  unfolding header_bytes address_bytes
  standard_stored told = rw (told, function, block)

  pub extended_stored : {m n : ℕ} → h.form ≡ Extended m → n ≡ length h.block →
      sets out 0 (byte ∷ h.control ∷ m ∷ 0xEF ∷ 0xEF ∷ 0xEF ∷ n ∷ b) ≡ sets out 0 (header_bytes h)
  unfolding header_bytes address_bytes
  extended_stored told count = rw (told, function, block, count)

pub length_telegram : (h : Head) (body : List ℕ) → length (telegram_of h body) ≡ header_length h + length body
unfolding telegram_of header_length
length_telegram h body = length-append (header_bytes h) body

module _ (h : Head) (body out : List ℕ) where
  pub telegram_short : length out < header_length h + length body → fitted (telegram_of h body) out ≡ denied 11 out
  telegram_short l = fitted_short (telegram_of h body) out (rw (length_telegram h body) l)

  pub telegram_written : {n : ℕ} {first both : List ℕ} → n ≡ header_length h → header_length h + length body ≤ length out →
      first ≡ sets out 0 (header_bytes h) → both ≡ sets first n body → filling_of (Ok (n + length body)) both ≡ fitted (telegram_of h body) out
  unfolding telegram_of header_length
  telegram_written e room f g =
      rw (fitted_room (telegram_of h body) out (rw (length_telegram h body) room))
      (rw (g, f, e, ← length-append (header_bytes h) body, ← sets_placed (telegram_of h body) out (rw (length_telegram h body) room))
      (ap (λ (l : List ℕ). filling_of (Ok (length (telegram_of h body))) l) (sym (sets_append out 0 (header_bytes h) body ∙ rw zero-add))))
