-- `four_bytes`: the library's bytes.
-- Assumes nothing.
use Rattle.signed.specs.Signed.{four_bytes}
use Rattle.signed.proofs.four_bytes.Goals as goal

pub returns : goal.returns
unfolding four_bytes
returns c = c.to_le_bytes.ensures
