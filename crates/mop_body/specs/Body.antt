-- The bodies of telegrams: what stands where in that of a request, and in that of a reply.
-- Assumes nothing.
use Rattle.std.specs.Prelude.{ℕ, List, ◌∷◌, length, get_or, drop}
use Rattle.base.specs.Words.{word, high_byte, low_byte, words_of, bytes_of}

-- the parts of a request's body: read start, read count, write start, write count, and the values
abbrev pub read_start : List ℕ → ℕ
read_start body = word (get_or body 0 0) (get_or body 1 0)

abbrev pub read_count : List ℕ → ℕ
read_count body = get_or body 2 0

abbrev pub write_start : List ℕ → ℕ
write_start body = word (get_or body 3 0) (get_or body 4 0)

abbrev pub write_count : List ℕ → ℕ
write_count body = get_or body 5 0

abbrev pub values_of : List ℕ → List ℕ
values_of body = words_of (drop 6 body)

-- the body of a request with such parts; there are as many values as its write count says
unfoldable pub request_body : ℕ → ℕ → ℕ → List ℕ → List ℕ
request_body rStart rCount wStart values =
    high_byte rStart ∷ low_byte rStart ∷ rCount ∷ high_byte wStart ∷ low_byte wStart ∷ length values ∷ bytes_of values

-- a reply's body has read start and read count in the same places, and behind them the bytes of the values
abbrev pub value_bytes : List ℕ → List ℕ
value_bytes body = drop 3 body

-- the body of a reply to a request's: read start and count as they came, then the values
unfoldable pub reply_with : List ℕ → List ℕ → List ℕ
reply_with body values = get_or body 0 0 ∷ get_or body 1 0 ∷ get_or body 2 0 ∷ bytes_of values
