-- `entry_count`: the count.
-- Assumes nothing.
use mathlib.Core.Path.{sym}
use Rattle.mop_header.proofs.Lengths.{length_block}
use Rattle.mop_header.proofs.Header.entry_count.Goals as goal

pub returns : goal.returns
returns c = λ slice. sym (length_block c.args.self slice)
