-- What holds of reading and writing a header together.
-- Assumes nothing.
use Rattle.std.specs.Prelude.{ℕ, ◌≤◌, ◌≡◌, Bool, true, false, List, [], ◌∷◌, eqb, length}
use Rattle.mop_block.specs.Block.{good_block}
use Rattle.mop_header.specs.Header.{Head, function_byte, telegram_of, body_of, is_mark, mark_agrees}
use Rattle.mop_reader.specs.Reading.{sound, allowed, good_for, good_count, max_telegram, reading}
use Rattle.mop_header.specs.declared.Function.{Function}
use Rattle.mop_header.specs.declared.Form.{Form}
use Rattle.mop_header.specs.declared.Form.TheVariants.{Standard, Extended}
use Rattle.mop_reader.specs.declared.Reader.{Reader}

-- the lengths that a block has in a form
unfoldable pub sized : Form → ℕ → Bool
sized Standard n = eqb n 4
sized (Extended mark) n = good_count n

-- a header in order for a reader
pub record InOrder (who : Reader) (h : Head) : Type 0 where
  pub function : allowed who (function_byte h.function) ≡ true
  pub size : sized h.form (length h.block) ≡ true
  pub block : good_for who h.block ≡ true
  pub mark : mark_agrees h ≡ true

-- what is written reads back: the header, and the body behind it
abbrev pub ReadsBack : Type 0
ReadsBack =
    (who : Reader) (h : Head) (body : List ℕ) → InOrder who h → length (telegram_of h body) ≤ max_telegram →
    (reading who (telegram_of h body) ≡ sound h) × (body_of h (telegram_of h body) ≡ body)

-- what reads well is what its header writes
pub record ReadWell (who : Reader) (telegram : List ℕ) (h : Head) : Type 0 where
  pub order : InOrder who h
  pub whole : telegram_of h (body_of h telegram) ≡ telegram
  pub short : length telegram ≤ max_telegram

abbrev pub IsWritten : Type 0
IsWritten = (who : Reader) (telegram : List ℕ) (h : Head) → reading who telegram ≡ sound h → ReadWell who telegram h

-- no good standard block looks like the mark, in a request or a reply
abbrev pub NoMark : Type 0
NoMark = (f : Function) (a b c d : ℕ) → good_block (a ∷ b ∷ c ∷ d ∷ []) ≡ true → is_mark f a b c d ≡ false
