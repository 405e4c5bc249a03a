-- A telegram that was read, and the parts of it that are lent: its block from start on, and its body from n on.
-- Assumes nothing.
use mathlib.Core.Path.{◌≡◌, ◌∙◌, ap, ap₂}
use mathlib.Core.List.{List}
use Prim.Native.Nat.{ℕ, ◌-◌}
use lib.ListN.{length, take, drop}
use Rattle.base.proofs.Places.{rest_from}
use Rattle.mop_header.specs.Header.{head_of, block_start, header_length, telegram_of, body_of}
use Rattle.mop_reader.specs.Reading.{sound, reading}
use Rattle.mop_header.specs.declared.Header.{Header}
use Rattle.mop_reader.specs.declared.Reader.TheVariants.{Station}
use Rattle.mop_reader.proofs.ReadBack.{is_written}

module _ (read : Header) (tg : List ℕ) where
  pub same_head : {start : ℕ} → start ≡ block_start read.form →
      head_of read (take (length tg - start) (drop start tg)) ≡ head_of read (drop (block_start read.form) tg)
  same_head begins = ap (head_of read) (rest_from tg begins)

  pub whole_telegram : reading Station tg ≡ sound (head_of read (drop (block_start read.form) tg)) →
      {start n : ℕ} → start ≡ block_start read.form → ((slice : List ℕ) → n ≡ header_length (head_of read slice)) →
      telegram_of (head_of read (take (length tg - start) (drop start tg))) (take (length tg - n) (drop n tg)) ≡ tg
  unfolding body_of
  whole_telegram order begins long =
      let h = head_of read (drop (block_start read.form) tg) in
      ap₂ telegram_of (same_head begins) (rest_from tg (long (drop (block_start read.form) tg))) ∙ (is_written Station tg h order).whole
