-- `put_words`: what is written, and what is left from i on, make the whole.
-- Assumes nothing.
use Prim.Native.Nat.{◌+◌, ◌*◌}
use mathlib.Core.Path.{◌≡◌}
use lib.ListN.{drop}
use lib.Seq.{sets}
use Rattle.base.specs.Words.{bytes_of}
use Rattle.words.proofs.put_words.Given as goal

abbrev pub invariant-loop-i : goal.invariant-loop-i
invariant-loop-i l = sets l.out (l.at + 2 * l.i) (bytes_of (drop l.i l.numbers)) ≡ sets l.initial.out l.at (bytes_of l.numbers)
