-- `distinct_addresses`: what is left, with the seen, decides as the whole list does.
-- Assumes nothing.
use mathlib.Core.Path.{◌≡◌}
use lib.ListN.{drop}
use Rattle.mop_block.specs.Block.{distinct_addresses}
use Rattle.mop_block.proofs.Seen.{all_new}
use Rattle.mop_block.proofs.distinct_addresses.Given as goal

abbrev pub invariant-loop-a : goal.invariant-loop-a
invariant-loop-a l = all_new l.seen (drop l.a-index l.list) ≡ distinct_addresses l.list
