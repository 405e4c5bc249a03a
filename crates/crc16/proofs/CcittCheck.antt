-- The check with the polynomial 1021: over no byte, one more, and two lists end to end; and it has 16 bits.
-- Assumes nothing.
use mathlib.Core.Path.{◌≡◌, refl, ◌∙◌}
use mathlib.Core.Bool.{Bool, true, false}
use mathlib.Core.List.{List, [], ◌∷◌, ◌++◌}
use Prim.Native.Nat.{ℕ, ◌*◌, ◌%◌, ◌<◌}
use native.Mathlib.Nat.{mod-lt}
use native.Mathlib.Omega.{arith}
use lib.Bits.{bit_xor, xor_lt}
use lib.Dec.{leb}
use Rattle.base.specs.Choice.{pick}
use Rattle.crc16.specs.Check.{run_over}
use Rattle.crc16.specs.Ccitt.{ccitt_bit, ccitt_byte, ccitt_over}
use Rattle.crc16.proofs.Check.{run_append, steps_bound, run_bound}

pub ccitt_none : (c : ℕ) → ccitt_over c [] ≡ c
unfolding ccitt_over run_over
ccitt_none c = refl

pub ccitt_cons : (c b : ℕ) (bs : List ℕ) → ccitt_over c (b ∷ bs) ≡ ccitt_over (ccitt_byte c b) bs
unfolding ccitt_over run_over
ccitt_cons c b bs = refl

pub ccitt_append : (c : ℕ) (xs ys : List ℕ) → ccitt_over c (xs ++ ys) ≡ ccitt_over (ccitt_over c xs) ys
unfolding ccitt_over
ccitt_append c xs ys = run_append ccitt_byte c xs ys

pub ccitt_push : (c : ℕ) (bs : List ℕ) (b : ℕ) → ccitt_over c (bs ++ b ∷ []) ≡ ccitt_byte (ccitt_over c bs) b
ccitt_push c bs b = ccitt_append c bs (b ∷ []) ∙ ccitt_cons (ccitt_over c bs) b [] ∙ ccitt_none _

chosen_bound : (t : Bool) (n : ℕ) → n < 65536 → pick t (bit_xor n 0x1021) n < 65536
chosen_bound true n h = xor_lt 16 n 0x1021 h (omega arith)
chosen_bound false n h = h

bit_bound : (c : ℕ) → ccitt_bit c < 65536
unfolding ccitt_bit
bit_bound c = chosen_bound (leb 0x8000 c) (c * 2 % 0x10000) (mod-lt (c * 2) (omega arith))

byte_bound : (c b : ℕ) → ccitt_byte c b < 65536
unfolding ccitt_byte
byte_bound c b = steps_bound ccitt_bit 65536 bit_bound 7 (bit_xor c (b * 0x100))

pub ccitt_bound : (c : ℕ) (bs : List ℕ) → c < 65536 → ccitt_over c bs < 65536
unfolding ccitt_over
ccitt_bound c bs h = run_bound ccitt_byte 65536 byte_bound c bs h
