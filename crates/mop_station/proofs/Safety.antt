-- A refusal changes nothing, and nobody but the destination changes a register.
-- Assumes nothing.
use mathlib.Core.Path.{◌≡◌, refl}
use mathlib.Core.Bool.{not}
use mathlib.Core.List.{List}
use mathlib.Core.Logic.{◌⊎◌, inl, inr}
use Prim.Native.Nat.{ℕ}
use lib.ListN.{length}
use Rattle.base.proofs.Choice.{pick_either}
use Rattle.mop_header.specs.Header.{Head, body_of}
use Rattle.mop_reader.specs.Reading.{Reading, sound, faulty, reading}
use Rattle.mop_reader.specs.declared.Reader.TheVariants.{Station}
use Rattle.mop_step.proofs.Safety.{step_keeps, step_only}
use Rattle.mop_step.specs.Step.{Stepped, relays, answers, not_mine, refuses, is_station, stepping}
use Rattle.mop_step.specs.Safety.{UnlessAnswered, CarriesOut}
use Rattle.mop_station.specs.Station.{Handling, sending_by, hearing, handling}
use Rattle.mop_station.specs.Safety.{Kept, RefusedKeepsAll, CarriesOutTelegram, OnlyDestinationWrites}

-- what is sent, or not
send_keeps : (s : Stepped) (body after t out : List ℕ) → UnlessAnswered s (after ≡ t) → Kept (sending_by s body after out) t out
unfolding sending_by
send_keeps (relays h) body after t out e = tt
send_keeps (answers h reply) body after t out e = tt
send_keeps not_mine body after t out e = (e, refl)
send_keeps (refuses k) body after t out e = (e, refl)

hear_keeps : (r : Reading) (own : ℕ) (telegram t out : List ℕ) → Kept (hearing r own telegram t out) t out
unfolding hearing
hear_keeps (faulty k) own telegram t out = (refl, refl)
hear_keeps (sound h) own telegram t out =
    let body = body_of h telegram in
    let s = stepping own h body t (length out) in
    send_keeps s.stepped body s.registers t out (step_keeps own h body t (length out))

pub refused_keeps_all : RefusedKeepsAll
unfolding handling
refused_keeps_all own t telegram out =
    pick_either (λ r. Kept r t out) (not (is_station own t)) (refl, refl) (hear_keeps (reading Station telegram) own telegram t out)

-- sending leaves the registers as the step does
send_registers : (s : Stepped) (body t out : List ℕ) → (sending_by s body t out).registers ≡ t
unfolding sending_by
send_registers (relays h) body t out = refl
send_registers (answers h reply) body t out = refl
send_registers not_mine body t out = refl
send_registers (refuses k) body t out = refl

module _ (own : ℕ) (t telegram out : List ℕ) where
  abbrev OnlyHere : Handling → Type 0
  OnlyHere r = (r.registers ≡ t) ⊎ CarriesOutTelegram own t telegram r.registers

  carried_by : (h : Head) → reading Station telegram ≡ sound h → {after registers : List ℕ} → registers ≡ after →
      (after ≡ t) ⊎ CarriesOut own h (body_of h telegram) t after → (registers ≡ t) ⊎ CarriesOutTelegram own t telegram registers
  carried_by h order same (inl e) = inl (rw same e)
  carried_by h order same (inr c) = inr (record { head = h; order = order; carried = rw same c })

  hear_only : (r : Reading) → reading Station telegram ≡ r → OnlyHere (hearing r own telegram t out)
  unfolding hearing
  hear_only (faulty k) e = inl refl
  hear_only (sound h) e =
      let body = body_of h telegram in
      let s = stepping own h body t (length out) in
      carried_by h e (send_registers s.stepped body s.registers out) (step_only own h body t (length out))

pub only_destination_writes : OnlyDestinationWrites
unfolding handling
only_destination_writes own t telegram out =
    pick_either (OnlyHere own t telegram out) (not (is_station own t)) (inl refl)
    (hear_only own t telegram out (reading Station telegram) refl)
