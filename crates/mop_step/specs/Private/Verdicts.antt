-- What a verdict of the code says of a body. Only private contracts cite this.
-- Assumes nothing.
use Rattle.std.specs.Prelude.{Result, Ok, Err}
use Rattle.refusal.specs.Numbers.{number_of}
use Rattle.refusal.specs.declared.Refusal.{Refusal}
use Rattle.mop_step.specs.Body.{Acceptance, accepts, rejects}

abbrev pub acceptance_of : Result Unit Refusal → Acceptance
acceptance_of (Ok _) = accepts
acceptance_of (Err r) = rejects (number_of r)
