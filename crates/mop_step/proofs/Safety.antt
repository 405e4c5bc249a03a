-- A refusal changes nothing in the step, and nobody but the destination changes a register.
-- Assumes nothing.
use mathlib.Core.Path.{◌≡◌, refl}
use mathlib.Core.List.{List}
use mathlib.Core.Logic.{◌⊎◌, inl, inr}
use Prim.Native.Nat.{ℕ}
use lib.Dec.{ltb}
use lib.ListN.{length}
use Rattle.base.proofs.Choice.{pick_either}
use Rattle.mop_header.specs.Header.{Head}
use Rattle.mop_step.proofs.Cases.{step_either}
use Rattle.mop_step.specs.Body.{after_writes, reply_body}
use Rattle.mop_step.specs.Step.{Stepped, relays, answers, not_mine, refuses, Step, step, StepCall, stepping, lending}
use Rattle.mop_step.specs.Safety.{UnlessAnswered, StepKept, StepRefusedKeepsAll, CarriesOut, StepOnlyDestinationWrites}

-- the registers, unless it answers
pub step_keeps : (own : ℕ) (h : Head) (body t : List ℕ) (room : ℕ) →
    (let s = stepping own h body t room in UnlessAnswered s.stepped (s.registers ≡ t))
step_keeps own h body t room =
    step_either own h body t room (λ (s : Step). UnlessAnswered s.stepped (s.registers ≡ t)) (λ k. refl) (λ l. refl) (λ c l. tt) refl

-- and the buffer for a reply's body
lent_keeps : (s : Stepped) (after t reply : List ℕ) → UnlessAnswered s (after ≡ t) → StepKept (lending (step s after) t reply) t reply
unfolding lending
lent_keeps (relays h) after t reply e = (e, refl)
lent_keeps (answers h body) after t reply e = pick_either (λ s. StepKept s t reply) (ltb (length reply) (length body)) (refl, refl) tt
lent_keeps not_mine after t reply e = (e, refl)
lent_keeps (refuses k) after t reply e = (e, refl)

pub step_refused_keeps_all : StepRefusedKeepsAll
step_refused_keeps_all own h body t room reply =
    let s = stepping own h body t room in
    lent_keeps s.stepped s.registers t reply (step_keeps own h body t room)

-- who changed a register was the destination
module _ (own : ℕ) (h : Head) (body t : List ℕ) (room : ℕ) where
  abbrev pub Only : List ℕ → Type 0
  Only after = (after ≡ t) ⊎ CarriesOut own h body t after

  pub step_only : Only (stepping own h body t room).registers
  step_only = step_either own h body t room (λ (s : Step). Only s.registers) (λ k. inl refl) (λ l. inl refl) (λ c l. inr c) (inl refl)

  lent_only : (reply : List ℕ) → Only (lending (stepping own h body t room) t reply).made.registers
  unfolding lending
  lent_only reply =
      step_either own h body t room (λ (s : Step). Only (lending s t reply).made.registers) (λ k. inl refl) (λ l. inl refl)
      (λ c l. pick_either (λ (x : StepCall). Only x.made.registers) (ltb (length reply) (length (reply_body body (after_writes body t)))) (inl refl) (inr c)) (inl refl)

pub step_only_destination_writes : StepOnlyDestinationWrites
step_only_destination_writes = lent_only
