-- Reading a header, step by step: what each test gives.
-- Assumes nothing.
use mathlib.Core.Path.{◌≡◌, refl, ◌∙◌, ap}
use mathlib.Core.Bool.{Bool, true, false, and-false}
use mathlib.Core.List.{List, [], ◌++◌}
use Prim.Native.Nat.{ℕ, ◌+◌, ◌≤◌, ◌<◌}
use borrow.Author.Tests.{lt-ltb, le-ltb, le-leb, lt-leb}
use lib.Dec.{eqb, leb}
use lib.ListN.{length, get_or, take, drop}
use Rattle.std.specs.Prelude.{Option, Some, None}
use Rattle.base.specs.Choice.{pick}
use Rattle.mop_header.specs.Header.{Head, head, head_of, entries, is_mark, mark_agrees, block_start}
use Rattle.mop_reader.specs.Reading.{sound, faulty, allowed, function_at, good_for, judged, standard_reading, count_at, extended_reading, max_telegram, reading}
use Rattle.mop_header.specs.declared.Form.{Form}
use Rattle.mop_header.specs.declared.Header.{Header}
use Rattle.mop_header.proofs.Turns.{own_entries, all_entries}
use Rattle.mop_header.specs.declared.Form.TheVariants.{Standard, Extended}
use Rattle.mop_header.specs.declared.Function.{Function}
use Rattle.mop_header.specs.declared.Function.TheVariants.{Request, Reply}
use Rattle.mop_reader.specs.declared.Reader.{Reader}
use Rattle.mop_reader.proofs.Readers.{some_taken}

-- the block, then the mark
pub judged_block : (who : Reader) (h : Head) → good_for who h.block ≡ false → judged who h ≡ faulty 5
unfolding judged
judged_block who h bad = rw bad

pub judged_mark : (who : Reader) (h : Head) → good_for who h.block ≡ true → mark_agrees h ≡ false → judged who h ≡ faulty 6
unfolding judged
judged_mark who h good bad = rw (good, bad)

pub judged_sound : (who : Reader) (h : Head) → good_for who h.block ≡ true → mark_agrees h ≡ true → judged who h ≡ sound h
unfolding judged
judged_sound who h good mark = rw (good, mark)

module _ (who : Reader) (tg : List ℕ) where
  -- the whole telegram
  pub too_long : max_telegram < length tg → reading who tg ≡ faulty 12
  unfolding reading
  too_long l = rw (lt-ltb max_telegram (length tg) l)

  module _ (small : length tg ≤ max_telegram) where
    pub cut : length tg < 6 → reading who tg ≡ faulty 2
    unfolding reading
    cut l = rw (le-ltb max_telegram (length tg) small, lt-ltb (length tg) 6 l)

    module _ (six : 6 ≤ length tg) where
      pub not_allowed : allowed who (get_or tg 0 0) ≡ false → reading who tg ≡ faulty 3
      unfolding reading
      not_allowed e = rw (le-ltb max_telegram (length tg) small, le-ltb (length tg) 6 six, e)

      module _ (function : allowed who (get_or tg 0 0) ≡ true) where
        pub as_extended : is_mark (function_at tg) (get_or tg 2 0) (get_or tg 3 0) (get_or tg 4 0) (get_or tg 5 0) ≡ true →
            reading who tg ≡ extended_reading who tg
        unfolding reading
        as_extended e = rw (le-ltb max_telegram (length tg) small, le-ltb (length tg) 6 six, function, e)

        pub as_standard : is_mark (function_at tg) (get_or tg 2 0) (get_or tg 3 0) (get_or tg 4 0) (get_or tg 5 0) ≡ false →
            reading who tg ≡ standard_reading who tg
        unfolding reading
        as_standard e = rw (le-ltb max_telegram (length tg) small, le-ltb (length tg) 6 six, function, e)

      -- the same by what the calls give
      pub by_form : {r : Option Function} {f : Function} {mark : Bool} →
          r ≡ pick (allowed who (get_or tg 0 0)) (Some (pick (eqb (get_or tg 0 0) 0xE0) Reply Request)) None → r ≡ Some f →
          mark ≡ is_mark f (get_or tg 2 0) (get_or tg 3 0) (get_or tg 4 0) (get_or tg 5 0) →
          reading who tg ≡ pick mark (extended_reading who tg) (standard_reading who tg)
      unfolding reading function_at
      by_form e s m =
          let taken = some_taken _ (allowed who (get_or tg 0 0)) e s in
          rw (le-ltb max_telegram (length tg) small, le-ltb (length tg) 6 six, taken.0, m, taken.1)

  -- behind the mark
  pub count_cut : length tg < 7 → extended_reading who tg ≡ faulty 2
  unfolding extended_reading
  count_cut l = rw (lt-ltb (length tg) 7 l)

  module _ (seven : 7 ≤ length tg) where
    pub count_small : count_at tg < 2 → extended_reading who tg ≡ faulty 4
    unfolding extended_reading
    count_small l = rw (le-ltb (length tg) 7 seven, lt-leb 2 (count_at tg) l)

    pub count_large : 32 < count_at tg → extended_reading who tg ≡ faulty 4
    unfolding extended_reading
    count_large l = rw (le-ltb (length tg) 7 seven, lt-leb (count_at tg) 32 l, and-false (leb 2 (count_at tg)))

    module _ (least : 2 ≤ count_at tg) (most : count_at tg ≤ 32) where
      pub block_cut : length tg < 7 + count_at tg → extended_reading who tg ≡ faulty 2
      unfolding extended_reading
      block_cut l = rw (le-ltb (length tg) 7 seven, le-leb 2 (count_at tg) least, le-leb (count_at tg) 32 most, lt-ltb (length tg) (7 + count_at tg) l)

      pub behind_mark : 7 + count_at tg ≤ length tg →
          extended_reading who tg ≡ judged who (head (function_at tg) (get_or tg 1 0) (Extended (get_or tg 2 0)) (take (count_at tg) (drop 7 tg)))
      unfolding extended_reading
      behind_mark l = rw (le-ltb (length tg) 7 seven, le-leb 2 (count_at tg) least, le-leb (count_at tg) 32 most, le-ltb (length tg) (7 + count_at tg) l)

-- without a mark the four entries are the block
pub without_mark : (who : Reader) (tg : List ℕ) → standard_reading who tg ≡ judged who (head (function_at tg) (get_or tg 1 0) Standard (take 4 (drop 2 tg)))
unfolding standard_reading
without_mark who tg = refl

-- a header as it is made, of as many entries as its block has
module _ (h : Header) (f : Function) (k : ℕ) (form : Form) (b : List ℕ)
    (made : (slice : List ℕ) → head_of h slice ≡ head f k form (entries (length b) slice)) where
  pub made_beside : head_of h b ≡ head f k form b
  made_beside = made b ∙ ap (head f k form) (all_entries b)

  -- beside the telegram that the block stands in
  pub made_read : (tg rest : List ℕ) → drop (block_start form) tg ≡ b ++ rest → head_of h (drop (block_start h.form) tg) ≡ head f k form b
  made_read tg rest e =
      let same : h.form ≡ form = ap (λ (x : Head). x.form) (made []) in
      ap (λ (m : Form). head_of h (drop (block_start m) tg)) same ∙ ap (head_of h) e ∙ made (b ++ rest) ∙ ap (head f k form) (own_entries b rest)
