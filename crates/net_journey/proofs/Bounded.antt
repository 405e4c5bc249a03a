-- A journey of no more transmissions than a bound is what is played with the bound.
-- Assumes nothing.
use mathlib.Core.Path.{◌≡◌, sym, ◌∙◌, ap, ap₂}
use mathlib.Core.List.{List}
use Prim.Native.Nat.{ℕ, zero, suc, ◌≤◌}
use native.Mathlib.Omega.{arith}
use lib.ListN.{length, replicate}
use Rattle.mop_station.specs.Station.{Handled, sent, not_mine, refuses, Handling, handling}
use Rattle.net_journey.specs.Net.{Net, with_table}
use Rattle.net_journey.specs.Journey.{at_nobody, Course, unheard, refusal, onward, call_output, left_by, Journey, ends, refused, sends}
use Rattle.net_journey.specs.Bounded.{calling, answered, called, heard_by, playing}
use Rattle.net_journey.proofs.Outputs.{SameCall, any_output}

-- a call of the journey, and the same one as it is played
pub same_calling : (a : ℕ) (t tg out : List ℕ) → call_output ≤ length out → SameCall (handling a t tg out) (calling a t tg)
unfolding calling
same_calling a t tg out room = any_output a t tg out (replicate call_output 0) room (omega arith)

-- two calls that give the same, and the rest played
module _ (rest : Net → List ℕ → Course) (net : Net) (tg : List ℕ) (a : ℕ) {x y : Handling} (same : SameCall x y) where
  left_same : left_by a y net ≡ left_by a x net
  left_same = ap (λ (t : List ℕ). with_table a t net) (sym same.registers)

  answered_same : (v : Handled) → x.handled ≡ v → answered rest (left_by a y net) tg y.output v ≡ answered rest (left_by a x net) tg x.output v
  answered_same (sent n) e = ap (onward tg n) (ap₂ rest left_same (sym (same.bytes n e)))
  answered_same (refuses k) e = ap (λ (n : Net). refusal tg n k) left_same
  answered_same not_mine e = ap (λ (n : Net). unheard tg n at_nobody) left_same

  pub called_same : (v : Handled) → x.handled ≡ v → called rest net tg a y ≡ answered rest (left_by a x net) tg x.output v
  called_same v e = rw (sym same.handled ∙ e) (answered_same v e)

pub plays : (calls : ℕ) {net : Net} {tg : List ℕ} {c : Course} → Journey net tg c → length c.transmissions ≤ calls → playing calls net tg ≡ c
unfolding playing
plays zero (ends e) h = absurd (omega arith)
plays zero (refused e out room k) h = absurd (omega arith)
plays zero (sends e out room n j) h = absurd (omega arith)
plays (suc calls) (ends {net = net} {tg = tg} e) h = ap (heard_by (playing calls) net tg) e
plays (suc calls) (refused {net = net} {tg = tg} {t = t} {a = a} {k = k} e out room r) h =
    ap (heard_by (playing calls) net tg) e ∙ called_same (playing calls) net tg a (same_calling a t tg out room) (refuses k) r
plays (suc calls) (sends {net = net} {tg = tg} {t = t} {a = a} {n = n} e out room r j) h =
    ap (heard_by (playing calls) net tg) e ∙ called_same (playing calls) net tg a (same_calling a t tg out room) (sent n) r
    ∙ ap (onward tg n) (plays calls j (omega arith))
