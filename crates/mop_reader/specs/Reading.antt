-- Reading the header of a telegram, with the refusals in their order.
-- Assumes nothing.
use Rattle.std.specs.Prelude.{ℕ, ◌+◌, Result, Ok, Err, Bool, not, ◌&&◌, ◌||◌, List, eqb, ltb, leb, length, get_or, take, drop}
use Rattle.base.specs.Choice.{pick}
use Rattle.refusal.specs.Numbers.{number_of}
use Rattle.refusal.specs.declared.Refusal.{Refusal}
use Rattle.mop_block.specs.Block.{stations, good_block}
use Rattle.mop_header.specs.Header.{Head, head, head_of, block_start, function_byte, is_mark, mark_agrees}
use Rattle.mop_header.specs.declared.Header.{Header}
use Rattle.mop_header.specs.declared.Function.{Function}
use Rattle.mop_header.specs.declared.Function.TheVariants.{Request, Reply}
use Rattle.mop_header.specs.declared.Form.TheVariants.{Standard, Extended}
use Rattle.mop_reader.specs.declared.Reader.{Reader}
use Rattle.mop_reader.specs.declared.Reader.TheVariants.{Station, Centre}

-- what reading gives: a header without a fault, or the number of a refusal
pub data Reading : Type 0 where
  sound : Head → Reading
  faulty : ℕ → Reading

-- the header that was read, beside the telegram from its block on
abbrev pub reading_of : Result Header Refusal → List ℕ → Reading
reading_of (Ok h) telegram = sound (head_of h (drop (block_start h.form) telegram))
reading_of (Err r) telegram = faulty (number_of r)

-- the function bytes that a reader takes: a station those of requests and replies, the centre only that of replies
unfoldable pub allowed : Reader → ℕ → Bool
allowed Station f = eqb f (function_byte Request) || eqb f (function_byte Reply)
allowed Centre f = eqb f (function_byte Reply)

unfoldable pub function_at : List ℕ → Function
function_at tg = pick (eqb (get_or tg 0 0) (function_byte Reply)) Reply Request

-- the block rule for a reader: the centre takes only a block that names somebody
unfoldable pub good_for : Reader → List ℕ → Bool
good_for Station b = good_block b
good_for Centre b = good_block b && ltb 0 (length (stations b))

-- 5 for the block, then 6 for the mark
unfoldable pub judged : Reader → Head → Reading
judged who h = pick (not (good_for who h.block)) (faulty 5) (pick (not (mark_agrees h)) (faulty 6) (sound h))

-- the four entries are the block
unfoldable pub standard_reading : Reader → List ℕ → Reading
standard_reading who tg = judged who (head (function_at tg) (get_or tg 1 0) Standard (take 4 (drop 2 tg)))

-- the four entries are the mark, a count follows, and so many entries are the block: 2, 4 for the count, 2
abbrev pub count_at : List ℕ → ℕ
count_at tg = get_or tg 6 0

-- the most entries of a block
abbrev pub max_entries : ℕ
max_entries = 32

abbrev pub good_count : ℕ → Bool
good_count n = leb 2 n && leb n max_entries

unfoldable pub extended_reading : Reader → List ℕ → Reading
extended_reading who tg =
    pick (ltb (length tg) 7) (faulty 2)
    (pick (not (good_count (count_at tg))) (faulty 4)
    (pick (ltb (length tg) (7 + count_at tg)) (faulty 2)
    (judged who (head (function_at tg) (get_or tg 1 0) (Extended (get_or tg 2 0)) (take (count_at tg) (drop 7 tg))))))

-- the most bytes of a telegram
abbrev pub max_telegram : ℕ
max_telegram = 1024

abbrev pub too_long : List ℕ → Bool
too_long tg = ltb max_telegram (length tg)

-- 12, 2, 3, then by the form
unfoldable pub reading : Reader → List ℕ → Reading
reading who tg =
    pick (too_long tg) (faulty 12)
    (pick (ltb (length tg) 6) (faulty 2)
    (pick (not (allowed who (get_or tg 0 0))) (faulty 3)
    (pick (is_mark (function_at tg) (get_or tg 2 0) (get_or tg 3 0) (get_or tg 4 0) (get_or tg 5 0)) (extended_reading who tg)
    (standard_reading who tg))))
