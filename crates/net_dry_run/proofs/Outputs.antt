-- The output of a dry run: a telegram in its first places, and 0 behind it.
-- Assumes nothing.
use mathlib.Core.Path.{◌≡◌, sym, ◌∙◌, ap}
use mathlib.Core.List.{List, ◌++◌, append-nil}
use Prim.Native.Nat.{ℕ, ◌-◌, ◌≤◌}
use native.Mathlib.Omega.{arith}
use lib.ListN.{length, take, drop, replicate, length-append, length-replicate, length-take, length-drop, take-append-drop, drop_of_length-le}
use Rattle.std.specs.Array.{IsFirstChunk}
use native.Mathlib.Nat.{zero-add}
use Rattle.net_journey.specs.Journey.{Course}
use Rattle.net_dry_run.specs.Private.Legs.{summary_of, of_summary}
use Rattle.base.specs.Places.{placed}
use Rattle.base.proofs.Places.{take_placed, drop_placed}
use Rattle.base.specs.Filling.{filled, Filling, fitted, written}
use Rattle.base.proofs.Filling.{fitted_room}
use Rattle.refusal.specs.Writing.{given_of, filling_of}
use Rattle.refusal.specs.declared.Refusal.{Refusal}
use Rattle.std.specs.Prelude.{Result, Ok, Err}
use Rattle.net_dry_run.specs.DryRun.{Outcome, DryRun, leaves, run_output, padded, of_course}

pub length_padded : (tg : List ℕ) → length tg ≤ run_output → length (padded tg) ≡ run_output
unfolding padded
length_padded tg h = omega (arith, length-append {A = ℕ}, length-replicate {A = ℕ})

-- what writing a telegram gives where there is room for it
module _ (tg out : List ℕ) (room : length tg ≤ length out) (r : Result ℕ Refusal) {o : List ℕ} (e : filling_of r o ≡ fitted tg out) where
  is_written : filling_of r o ≡ written tg out
  is_written = e ∙ fitted_room tg out room

  pub written_length : r ≡ Ok (length tg)
  written_length = by_answer r (ap (λ (f : Filling). f.given) is_written)
    where
      by_answer : (r : Result ℕ Refusal) → given_of r ≡ filled (length tg) → r ≡ Ok (length tg)
      by_answer (Ok n) g = let long : n ≡ length tg = cc in ap Ok long
      by_answer (Err r) g = cc

  pub written_output : o ≡ placed tg out
  written_output = ap (λ (f : Filling). f.output) is_written

-- the telegram in the first places, and 0 in those that are left
pub last_output : (tg : List ℕ) {o zeros : List ℕ} {n : ℕ} (out : List ℕ) → length out ≡ run_output → length o ≡ run_output → o ≡ placed tg out →
    n ≡ length tg → zeros ≡ replicate (length (take (run_output - n) (drop n o))) 0 → take n o ++ (zeros ++ drop (run_output - n) (drop n o)) ≡ padded tg
unfolding padded
last_output tg {o} {zeros} {n} out e el eo en ez =
    let left : length (take (run_output - n) (drop n o)) ≡ run_output - length tg = omega (arith, length-take (run_output - n) (drop n o), length-drop n o) in
    let clear : zeros ≡ replicate (run_output - length tg) 0 = ez ∙ ap (λ (k : ℕ). replicate k 0) left in
    let none : length (drop (length tg) out) ≤ run_output - length tg = omega (arith, length-drop (length tg) out) in
    rw (clear, eo, en, take_placed tg out, drop_placed tg out, drop_of_length-le (drop (length tg) out) none, append-nil)

-- the first places of an output, as they are lent and given back
pub first_kept : (out : List ℕ) {part : List ℕ} → IsFirstChunk out part run_output → part ++ drop run_output out ≡ out
first_kept out f = rw f.same (take-append-drop run_output out)

-- the places that are filled, and those behind them
pub of_course_filled : (c : Course) (out : List ℕ) {o : Outcome} {tables part : List ℕ} → leaves o tables part ≡ of_summary (summary_of 0 c) →
    length part ≡ run_output → leaves o tables (part ++ drop run_output out) ≡ of_course c out
unfolding of_course placed
of_course_filled c out {o} {tables} {part} e long =
    ap (λ (n : ℕ). leaves o tables (part ++ drop n out)) (sym long)
    ∙ ap (λ (d : DryRun). leaves d.outcome d.tables (d.output ++ drop (length d.output) out)) e
    ∙ rw (zero-add (length c.transmissions))
