-- Writing two-byte numbers as bytes: one more of them, and the last that has a place.
-- Assumes nothing.
use mathlib.Core.Path.{◌≡◌, refl, sym, ◌∙◌}
use mathlib.Core.List.{List, [], ◌∷◌}
use Prim.Native.Nat.{ℕ, ◌+◌, ◌/◌, ◌%◌, ◌^◌, ◌<◌, ◌≤◌}
use native.Mathlib.Numerals.{add-one, add-two}
use native.Mathlib.Omega.{arith}
use lib.ListN.{length, get_or, drop, set}
use lib.Seq.{sets, drop-cons, length-sets}
use Rattle.base.specs.Words.{bytes_of}
use Rattle.places.proofs.Copies.{sets_beyond}

-- two bytes by index are the pair
pub pair_stored : (out : List ℕ) (place a b : ℕ) {pair : List ℕ} → pair ≡ a ∷ b ∷ [] →
    set (set out place (get_or pair 0 0)) (place + 1) (get_or pair 1 0) ≡ sets out place pair
pair_stored out place a b e = rw (e, add-one place)

module _ (numbers out : List ℕ) (place i : ℕ) {whole : List ℕ} (h : i < length numbers) (fits : get_or numbers i 0 < 2 ^ 16) where
  pub put_step : sets out place (bytes_of (drop i numbers)) ≡ whole → {pair new : List ℕ} →
      pair ≡ get_or numbers i 0 / 256 % 256 ∷ get_or numbers i 0 % 256 ∷ [] → new ≡ sets out place pair → {next : ℕ} → next ≡ place + 2 →
      sets new next (bytes_of (drop (i + 1) numbers)) ≡ whole
  unfolding bytes_of
  put_step k e f g =
      let high : get_or numbers i 0 / 256 % 256 ≡ get_or numbers i 0 / 256 = omega arith in
      rw (f, e, high, g, add-two place, add-one i) (rw (drop-cons numbers i 0 h) at k)

  -- behind these two bytes no place is left
  pub put_last : sets out place (bytes_of (drop i numbers)) ≡ whole → length out ≤ place + 2 → {pair new : List ℕ} →
      pair ≡ get_or numbers i 0 / 256 % 256 ∷ get_or numbers i 0 % 256 ∷ [] → new ≡ sets out place pair → new ≡ whole
  put_last k full {pair} {new} e f =
      let long : length new ≤ place + 2 = rw (f, length-sets out place pair) full in
      sym (sets_beyond new (place + 2) (bytes_of (drop (i + 1) numbers)) long) ∙ put_step k e f refl
