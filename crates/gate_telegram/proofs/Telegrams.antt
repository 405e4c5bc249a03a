-- The telegram: its bytes, its length and its check, and the stores that write it.
-- Assumes nothing.
use mathlib.Core.Path.{◌≡◌, refl}
use mathlib.Core.List.{List, [], ◌∷◌, ◌++◌}
use Prim.Native.Nat.{ℕ, ◌+◌, ◌≤◌, ◌<◌}
use native.Mathlib.Omega.{arith}
use lib.ListN.{length, length-append}
use lib.Seq.{sets}
use Rattle.base.specs.Filling.{written}
use Rattle.base.specs.Words.{high_byte, low_byte, bytes_of}
use Rattle.base.proofs.Places.{sets_append, sets_placed}
use Rattle.crc16.specs.Ccitt.{ccitt_start, ccitt_over}
use Rattle.crc16.proofs.CcittCheck.{ccitt_append, ccitt_bound}
use Rattle.gate_refusal.specs.Writing.{filling_of}
use Rattle.std.specs.Prelude.{Ok}
use Rattle.gate_telegram.specs.Telegram.{start_byte, checked, check_of, telegram_of}

-- what stands before the data
abbrev pub opening : ℕ → ℕ → ℕ → List ℕ
opening d s n = start_byte ∷ d ∷ s ∷ n ∷ []

-- the check, as its two bytes
abbrev pub closing : ℕ → List ℕ
closing check = high_byte check ∷ low_byte check ∷ []

module _ (d s : ℕ) (bs : List ℕ) where
  pub telegram_bytes : telegram_of d s bs ≡ start_byte ∷ d ∷ s ∷ length bs ∷ (bs ++ closing (check_of d s bs))
  unfolding telegram_of checked bytes_of
  telegram_bytes = refl

  pub length_telegram : length (telegram_of d s bs) ≡ length bs + 6
  length_telegram = rw telegram_bytes (simp length-append (omega arith))

  -- the check goes over what stands before the data, and on over the data
  pub check_split : check_of d s bs ≡ ccitt_over (ccitt_over ccitt_start (opening d s (length bs))) bs
  unfolding check_of checked
  check_split = ccitt_append ccitt_start (opening d s (length bs)) bs

  pub check_bound : check_of d s bs < 65536
  unfolding check_of
  check_bound = ccitt_bound ccitt_start (checked d s bs) (omega arith)

  module _ (out : List ℕ) where
    telegram_stores : sets (sets (sets out 0 (opening d s (length bs))) 4 bs) (length bs + 4) (bytes_of (check_of d s bs ∷ [])) ≡ sets out 0 (telegram_of d s bs)
    unfolding bytes_of
    telegram_stores =
        let behind : length bs + 4 ≡ 4 + length bs = omega arith in
        rw (telegram_bytes, sets_append (sets out 0 (opening d s (length bs))) 4 bs (closing (check_of d s bs)), behind)

    -- the stores of a check that was taken so make the telegram
    pub telegram_written : {front check : ℕ} {begun filled ended : List ℕ} → front ≡ ccitt_over ccitt_start (opening d s (length bs)) →
        check ≡ ccitt_over front bs → begun ≡ sets out 0 (opening d s (length bs)) → filled ≡ sets begun 4 bs →
        ended ≡ sets filled (length bs + 4) (bytes_of (check ∷ [])) → length bs + 6 ≤ length out →
        filling_of (Ok (length bs + 6)) ended ≡ written (telegram_of d s bs) out
    telegram_written e f g h k room =
        rw (k, h, g, f, e, ← check_split, telegram_stores, ← length_telegram, sets_placed (telegram_of d s bs) out (rw length_telegram room))
