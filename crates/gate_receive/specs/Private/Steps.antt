-- A step beside the one slice that its function writes. Only private contracts cite this.
-- Assumes nothing.
use Rattle.std.specs.Prelude.{ℕ, List}
use Rattle.gate_receive.specs.Receive.{reaction_of, Storing, storing, Judging, judging}
use Rattle.gate_receive.specs.declared.GateStep.{GateStep}

abbrev pub storing_of : GateStep → List ℕ → Storing
storing_of s st = storing (reaction_of s) st

abbrev pub judging_of : GateStep → List ℕ → Judging
judging_of s out = judging (reaction_of s) out
