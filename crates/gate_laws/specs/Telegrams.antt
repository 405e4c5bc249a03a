-- Telegrams read back by the receiver, and what it passes over.
-- Assumes nothing.
use Rattle.std.specs.Prelude.{ℕ, ◌+◌, ◌-◌, ◌≤◌, ◌≡◌, false, List, [], ◌∷◌, ◌++◌, length, replicate, take}
use Rattle.base.specs.Filling.{filled}
use Rattle.base.specs.Places.{placed}
use Rattle.gate_telegram.specs.Telegram.{start_byte, reserved, max_data, telegram_of, bad_addresses, telegram_writing}
use Rattle.gate_receive.specs.Receive.{Response, nothing, telegram, token, refuses}
use Rattle.gate_receive.specs.declared.GateState.TheVariants.{Rest}
use Rattle.gate_laws.specs.Feeding.{Fed, after, feed}
use Rattle.gate_laws.specs.Bytes.{Bytes}

-- how data from a source is accepted: no data is a token
abbrev pub acceptance : ℕ → List ℕ → Response
acceptance s [] = token s
acceptance s (b ∷ bs) = telegram s (length (b ∷ bs))

-- a telegram of so many bytes is accepted: nothing to each byte but the last; then the receiver is at rest, the data is in the
-- first places of store and output, and the places behind are as they were
abbrev pub accepted : ℕ → ℕ → List ℕ → List ℕ → List ℕ → Fed
accepted n s bs st out =
    record { answers = replicate (n - 1) nothing ++ (acceptance s bs ∷ []); state = Rest; store = placed bs st; output = placed bs out }

-- what the writer writes, fed to a fresh receiver with the destination as its own address and room for the data, is accepted
-- with its data; n is the length that the writer gives back, and buf its output
abbrev pub WrittenIsReceived : Type 0
WrittenIsReceived =
    (d s n : ℕ) (bs buf st out : List ℕ) → (telegram_writing d s bs buf).given ≡ filled n → length st ≡ max_data →
    length bs ≤ length out →
    feed d Rest st out (take n (telegram_writing d s bs buf).output) ≡ accepted n s bs st out

-- what a receiver at rest passes over: bytes that are no start byte, and whole telegrams for others, whatever they hold: any
-- source, any length byte, so many bytes of data as it says, and the two of a check, right or wrong
pub data Passed (own : ℕ) : List ℕ → Type 0 where
  none : Passed own []
  skipped : {b : ℕ} {bs : List ℕ} → (b ≡ start_byte → ⊥) → Passed own bs → Passed own (b ∷ bs)
  others : {d s n : ℕ} (held : List ℕ) {bs : List ℕ} → (d ≡ own → ⊥) → n ≤ 255 → length held ≡ n + 2 → Passed own bs →
      Passed own (start_byte ∷ d ∷ s ∷ n ∷ (held ++ bs))

-- each byte of it gets nothing, and what follows meets a fresh receiver, with store and output as they were
abbrev pub PassedOver : Type 0
PassedOver =
    (own : ℕ) (front rest st out : List ℕ) → (own ≡ reserved → ⊥) → length st ≡ max_data → Passed own front →
    feed own Rest st out (front ++ rest) ≡ after (replicate (length front) nothing) (feed own Rest st out rest)

-- so a telegram is received behind any such bytes
abbrev pub ReceivedBehind : Type 0
ReceivedBehind =
    (d s n : ℕ) (front bs buf st out : List ℕ) → Passed d front → (telegram_writing d s bs buf).given ≡ filled n →
    length st ≡ max_data → length bs ≤ length out →
    feed d Rest st out (front ++ take n (telegram_writing d s bs buf).output)
    ≡ after (replicate (length front) nothing) (accepted n s bs st out)

-- the other way round. How a telegram from s with the data ds was accepted: behind bytes that are passed over came the telegram
-- that the writer writes for it, and the data is in the first places of the output
pub record AcceptedAs (own : ℕ) (bs out : List ℕ) (r : Response) (after : List ℕ) : Type 0 where
  pub front : List ℕ
  pub source : ℕ
  pub held : List ℕ
  pub passed : Passed own front
  pub bytes : bs ≡ front ++ telegram_of own source held
  pub addresses : bad_addresses own source (length held) ≡ false
  pub long : length held ≤ max_data
  pub answer : r ≡ acceptance source held
  pub put : after ≡ placed held out

-- a telegram or a token
abbrev pub Accepts : Response → Type 0
Accepts nothing = ⊥
Accepts (telegram s n) = Unit
Accepts (token s) = Unit
Accepts (refuses k) = ⊥

-- so whatever bytes a fresh receiver accepts at the last of them, having said nothing before, are what a writer writes
abbrev pub AcceptedIsWritten : Type 0
AcceptedIsWritten =
    (own m : ℕ) (bs st out : List ℕ) (r : Response) → (own ≡ reserved → ⊥) → length st ≡ max_data → Bytes bs → Accepts r →
    (feed own Rest st out bs).answers ≡ replicate m nothing ++ (r ∷ []) →
    AcceptedAs own bs out r (feed own Rest st out bs).output
