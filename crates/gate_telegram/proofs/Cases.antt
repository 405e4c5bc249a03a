-- Each case of what writing a telegram gives.
-- Assumes nothing.
use mathlib.Core.Path.{◌≡◌}
use mathlib.Core.Bool.{true, false}
use mathlib.Core.List.{List}
use Prim.Native.Nat.{ℕ, ◌+◌, ◌≤◌, ◌<◌}
use borrow.Author.Tests.{lt-ltb, le-ltb}
use lib.ListN.{length}
use Rattle.base.specs.Filling.{denied, written}
use Rattle.base.proofs.Filling.{fitted_short, fitted_room}
use Rattle.gate_telegram.specs.Telegram.{max_data, telegram_of, bad_addresses, telegram_writing}
use Rattle.gate_telegram.proofs.Telegrams.{length_telegram}

module _ (d s : ℕ) (bs out : List ℕ) where
  pub writing_bad : bad_addresses d s (length bs) ≡ true → telegram_writing d s bs out ≡ denied 16 out
  unfolding telegram_writing
  writing_bad e = simp e

  module _ (good : bad_addresses d s (length bs) ≡ false) where
    pub writing_long : max_data < length bs → telegram_writing d s bs out ≡ denied 7 out
    unfolding telegram_writing
    writing_long h = simp (good, lt-ltb _ _ h)

    module _ (fits : length bs ≤ max_data) where
      pub writing_short : length out < length bs + 6 → telegram_writing d s bs out ≡ denied 11 out
      unfolding telegram_writing
      writing_short h = simp (good, le-ltb _ _ fits) (fitted_short (telegram_of d s bs) out (rw length_telegram h))

      pub writing_room : length bs + 6 ≤ length out → telegram_writing d s bs out ≡ written (telegram_of d s bs) out
      unfolding telegram_writing
      writing_room h = simp (good, le-ltb _ _ fits) (fitted_room (telegram_of d s bs) out (rw length_telegram h))
