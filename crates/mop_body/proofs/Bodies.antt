-- Bodies that are written, and their parts read back.
-- Assumes nothing.
use mathlib.Core.Path.{◌≡◌, refl}
use mathlib.Core.List.{List}
use Prim.Native.Nat.{ℕ, ◌+◌, ◌*◌}
use native.Mathlib.Omega.{arith}
use lib.ListN.{length}
use Rattle.base.specs.Words.{bytes_of}
use Rattle.base.proofs.Words.{word_bytes, words_bytes, length_bytes}
use Rattle.mop_body.specs.Body.{read_start, read_count, write_start, write_count, values_of, request_body, value_bytes, reply_with}

-- a request
module _ (rStart rCount wStart : ℕ) (values : List ℕ) where
  pub read_start_back : read_start (request_body rStart rCount wStart values) ≡ rStart
  unfolding request_body
  read_start_back = word_bytes rStart

  pub read_count_back : read_count (request_body rStart rCount wStart values) ≡ rCount
  unfolding request_body
  read_count_back = refl

  pub write_start_back : write_start (request_body rStart rCount wStart values) ≡ wStart
  unfolding request_body
  write_start_back = word_bytes wStart

  pub write_count_back : write_count (request_body rStart rCount wStart values) ≡ length values
  unfolding request_body
  write_count_back = refl

  pub values_back : values_of (request_body rStart rCount wStart values) ≡ values
  unfolding request_body
  values_back = words_bytes values

  pub length_request_body : length (request_body rStart rCount wStart values) ≡ 6 + 2 * length values
  unfolding request_body
  length_request_body = omega (arith, length_bytes values)

-- a reply
module _ (body values : List ℕ) where
  pub start_repeated : read_start (reply_with body values) ≡ read_start body
  unfolding reply_with
  start_repeated = refl

  pub count_repeated : read_count (reply_with body values) ≡ read_count body
  unfolding reply_with
  count_repeated = refl

  pub bytes_behind : value_bytes (reply_with body values) ≡ bytes_of values
  unfolding reply_with
  bytes_behind = refl

  pub length_reply_with : length (reply_with body values) ≡ 3 + 2 * length values
  unfolding reply_with
  length_reply_with = omega (arith, length_bytes values)
