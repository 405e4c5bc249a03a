-- What the step of a station never does, whatever it is handed.
-- Assumes nothing.
use Rattle.std.specs.Prelude.{ℕ, ◌≡◌, List, ◌⊎◌}
use Rattle.mop_block.specs.Block.{first, next}
use Rattle.mop_header.specs.Header.{Head}
use Rattle.mop_header.specs.declared.Function.TheVariants.{Request}
use Rattle.mop_step.specs.Body.{accepts, judged_body, after_writes}
use Rattle.mop_step.specs.Step.{Stepped, relays, answers, not_mine, refuses, StepCall, lending, stepping}

-- registers and the buffer for a reply's body are as they were, unless the step answers
abbrev pub UnlessAnswered : Stepped → Type 0 → Type 0
UnlessAnswered (answers h body) kept = Unit
UnlessAnswered (relays h) kept = kept
UnlessAnswered not_mine kept = kept
UnlessAnswered (refuses k) kept = kept

abbrev pub StepKept : StepCall → List ℕ → List ℕ → Type 0
StepKept s t reply = UnlessAnswered s.made.stepped ((s.made.registers ≡ t) × (s.reply ≡ reply))

-- a refusal, "not mine" and a relay change nothing
abbrev pub StepRefusedKeepsAll : Type 0
StepRefusedKeepsAll =
    (own : ℕ) (h : Head) (body t : List ℕ) (room : ℕ) (reply : List ℕ) → StepKept (lending (stepping own h body t room) t reply) t reply

-- a station carries out the body of a request: its own entry is the first one and the next entry is 00, it accepts the body, and
-- all that the body writes is written
pub record CarriesOut (own : ℕ) (h : Head) (body t registers : List ℕ) : Type 0 where
  pub request : h.function ≡ Request
  pub mine : first h.block ≡ own
  pub last : next h.block ≡ 0
  pub accepted : judged_body body ≡ accepts
  pub all : registers ≡ after_writes body t

-- nobody but the destination changes a register, and it writes all or none
abbrev pub StepOnlyDestinationWrites : Type 0
StepOnlyDestinationWrites =
    (own : ℕ) (h : Head) (body t : List ℕ) (room : ℕ) (reply : List ℕ) →
    (let after = (lending (stepping own h body t room) t reply).made.registers in (after ≡ t) ⊎ CarriesOut own h body t after)
