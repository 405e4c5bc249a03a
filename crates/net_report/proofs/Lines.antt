-- The parts of lines: the entries, and what stands before and behind them.
-- Assumes nothing.
use mathlib.Core.Path.{◌≡◌, ◌∙◌}
use mathlib.Core.List.{List, [], ◌∷◌, ◌++◌, append_assoc}
use Prim.Native.Nat.{ℕ, ◌+◌, ◌≤◌, ◌<◌}
use native.Mathlib.Numerals.{add-one}
use lib.ListN.{length, get_or, drop, drop_of_length-le}
use lib.Seq.{drop-cons}
use Rattle.base.proofs.Writing.{Splits}
use Rattle.mop_header.specs.Header.{Head, function_byte}
use Rattle.mop_reader.specs.Reading.{sound, reading}
use Rattle.mop_reader.specs.declared.Reader.TheVariants.{Station}
use Rattle.net_journey.specs.Journey.{Ending}
use Rattle.net_report.specs.Text.{line_feed, hex_bytes, decimal, head_line, line_of, line, sent_text, ending_text, closing}

-- the bytes from place i on in hex: one of them, and what is left behind it
module _ (bs : List ℕ) (i : ℕ) where
  pub hex_next : (b : ℕ) → b ≡ get_or bs i 0 → i < length bs → Splits (hex_bytes (drop i bs)) (hex_bytes (b ∷ [])) (hex_bytes (drop (i + 1) bs))
  unfolding hex_bytes
  hex_next b e h = record { is = rw (add-one, drop-cons bs i 0 h, ← e) }

  pub hex_end : length bs ≤ i → hex_bytes (drop i bs) ≡ []
  unfolding hex_bytes
  hex_end h = rw (drop_of_length-le bs h)

-- the line, with the byte that stands for the function
pub line_parts : (number : ℕ) (h : Head) (byte : ℕ) → byte ≡ function_byte h.function →
    ((decimal number ++ hex_bytes (byte ∷ [])) ++ hex_bytes h.block) ++ (line_feed ∷ []) ≡ head_line number h
unfolding head_line hex_bytes
line_parts number h byte f = rw f
    (append_assoc (decimal number ++ hex_bytes (function_byte h.function ∷ [])) (hex_bytes h.block) (line_feed ∷ [])
    ∙ append_assoc (decimal number) (hex_bytes (function_byte h.function ∷ [])) (hex_bytes h.block ++ (line_feed ∷ [])))

pub line_read : (number : ℕ) (tg : List ℕ) {h : Head} → reading Station tg ≡ sound h → line number tg ≡ head_line number h
unfolding line line_of
line_read number tg e = rw e

pub closing_parts : (count : ℕ) (e : Ending) → (sent_text count ++ ending_text e) ++ (line_feed ∷ []) ≡ closing count e
unfolding closing
closing_parts count e = append_assoc (sent_text count) (ending_text e) (line_feed ∷ [])
