-- Two-byte numbers and their bytes, both ways.
-- Assumes nothing.
use mathlib.Core.Path.{◌≡◌, refl, ap}
use mathlib.Core.List.{List, [], ◌∷◌}
use Prim.Native.Nat.{ℕ, zero, suc, ◌+◌, ◌-◌, ◌*◌, ◌≤◌, ◌<◌}
use native.Mathlib.Numerals.{add-one, add-two}
use native.Mathlib.Omega.{arith}
use lib.ListN.{length, get_or, drop}
use lib.Seq.{drop-cons}
use Rattle.base.specs.Words.{word, high_byte, low_byte, words_of, bytes_of}

pub word_bytes : (n : ℕ) → word (high_byte n) (low_byte n) ≡ n
word_bytes n = omega arith

module _ (high low : ℕ) (byte : low < 256) where
  pub high_word : high_byte (word high low) ≡ high
  high_word = omega arith

  pub low_word : low_byte (word high low) ≡ low
  low_word = omega arith

  pub word_bound : high < 256 → word high low < 65536
  word_bound h = omega arith

pub high_bound : (n : ℕ) → n < 65536 → high_byte n < 256
high_bound n h = omega arith

pub low_bound : (n : ℕ) → low_byte n < 256
low_bound n = omega arith

pub words_bytes : (ns : List ℕ) → words_of (bytes_of ns) ≡ ns
unfolding words_of bytes_of
words_bytes [] = refl
words_bytes (n ∷ ns) = rw (word_bytes n, words_bytes ns)

pub length_bytes : (ns : List ℕ) → length (bytes_of ns) ≡ 2 * length ns
unfolding bytes_of
length_bytes [] = refl
length_bytes (n ∷ ns) = omega (arith, length_bytes ns)

pub length_words : (n : ℕ) (bytes : List ℕ) → length bytes ≡ 2 * n → length (words_of bytes) ≡ n
unfolding words_of
length_words zero [] e = refl
length_words zero (b ∷ bytes) e = absurd (omega arith)
length_words (suc n) [] e = absurd (omega arith)
length_words (suc n) (b ∷ []) e = absurd (omega arith)
length_words (suc n) (a ∷ b ∷ bytes) e = ap suc (length_words n bytes (omega arith))

-- the numbers of a list of bytes from a place on
pub words_none : (bytes : List ℕ) → length bytes ≤ 1 → words_of bytes ≡ []
unfolding words_of
words_none [] h = refl
words_none (b ∷ []) h = refl
words_none (a ∷ b ∷ bytes) h = absurd (omega arith)

pub words_next : (bytes : List ℕ) (i : ℕ) → 1 < length bytes - i →
    words_of (drop i bytes) ≡ word (get_or bytes i 0) (get_or bytes (i + 1) 0) ∷ words_of (drop (i + 2) bytes)
unfolding words_of
words_next bytes i h =
    let one : i < length bytes = omega arith in
    let two : suc i < length bytes = omega arith in
    rw (add-one i, add-two i, drop-cons bytes i 0 one, drop-cons bytes (suc i) 0 two)
