-- `put_state`: the places so far hold the numbers of the state.
-- Assumes nothing.
use Prim.Native.Nat.{ℕ, ◌<◌}
use mathlib.Core.Path.{◌≡◌}
use lib.ListN.{length, get_or}
use Rattle.c_gate.proofs.put_state.Given as goal

abbrev pub invariant-loop-place : goal.invariant-loop-place
invariant-loop-place l = (length l.words ≡ 7) × ((k : ℕ) → k < l.place → get_or l.words k 0 ≡ get_or l.number-items k 0)
