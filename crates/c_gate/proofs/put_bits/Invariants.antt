-- `put_bits`: the places so far hold the numbers of the levels or edges.
-- Assumes nothing.
use Prim.Native.Nat.{ℕ, ◌<◌}
use mathlib.Core.Path.{◌≡◌}
use lib.ListN.{length, get_or}
use Rattle.c_gate.specs.Commands.{bit_numbers}
use Rattle.c_gate.proofs.put_bits.Given as goal

abbrev pub invariant-loop-place : goal.invariant-loop-place
invariant-loop-place l = (length l.words ≡ 10) × ((k : ℕ) → k < l.place → get_or l.words k 0 ≡ get_or (bit_numbers l.fn.bits) k 0)
