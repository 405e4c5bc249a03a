-- `length`: the bytes before the block, and the block's own.
-- Assumes nothing.
use native.Mathlib.Omega.{arith}
use Rattle.mop_header.proofs.Lengths.{start_most, counted}
use borrow.Author.Rules.{rules}
use Rattle.mop_header.proofs.Header.length.Goals as goal

pub overflow_add-result : goal.overflow_add-result
overflow_add-result c = search (rules, c.block_start.ensures, start_most c.args.self.form)

pub returns : goal.returns
returns c = λ slice. omega (arith, c.block_start.ensures, counted c.args.self slice)
