-- `as_reply`: another function and control byte, the rest as it is.
-- Assumes nothing.
use mathlib.Core.Path.{refl}
use Rattle.mop_header.specs.Header.{as_reply}
use Rattle.mop_header.proofs.Turns.{for_each}
use Rattle.mop_header.proofs.Header.as_reply.Goals as goal

pub returns : goal.returns
unfolding as_reply
returns c = for_each (λ slice. refl)
