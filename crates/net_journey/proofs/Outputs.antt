-- Every call gives the same with any output that is long enough.
-- Assumes nothing.
use mathlib.Core.Path.{◌≡◌, refl, sym, ◌∙◌, ap, subst}
use mathlib.Core.Bool.{Bool, true, false, and-eq-true_iff}
use mathlib.Core.List.{List}
use Prim.Native.Nat.{ℕ, zero, suc, ◌≤◌}
use native.Mathlib.Nat.{suc-ne-zero}
use native.Mathlib.Omega.{arith}
use borrow.Author.Tests.{eqb-true, eqb-false}
use lib.Dec.{eqb}
use lib.ListN.{length, take}
use Rattle.base.specs.Places.{placed}
use Rattle.base.proofs.Places.{take_placed}
use Rattle.mop_registers.specs.Rows.{table_length}
use Rattle.mop_block.specs.Block.{is_address, first, next}
use Rattle.mop_header.specs.Header.{Head, telegram_of, body_of, rolled_left, sent_back}
use Rattle.mop_reader.specs.Reading.{Reading, sound, faulty, reading}
use Rattle.mop_header.specs.declared.Function.{Function}
use Rattle.mop_header.specs.declared.Function.TheVariants.{Request, Reply}
use Rattle.mop_reader.specs.declared.Reader.TheVariants.{Station}
use Rattle.mop_step.specs.Body.{Acceptance, accepts, rejects, judged_body, after_writes, reply_body}
use Rattle.mop_step.specs.Step.{Step, is_station, replied}
use Rattle.mop_station.specs.Station.{Handled, sent, not_mine, refuses, Handling, leaving, sending_by, taking, handling}
use Rattle.mop_step.proofs.Steps.{for_another}
use Rattle.mop_station.proofs.Telegrams.{not_set_up, heard}
use Rattle.mop_step.proofs.Stations.{is_station_lem}
use Rattle.net_journey.specs.Journey.{call_output}
use Rattle.net_journey.proofs.Calls.{call_fault, call_reply, call_request, call_accepted, call_rejected}

-- two calls that give the same: the bytes sent are the first places of the output
pub record SameCall (x y : Handling) : Type 0 where
  pub handled : x.handled ≡ y.handled
  pub registers : x.registers ≡ y.registers
  pub bytes : (n : ℕ) → x.handled ≡ sent n → take n x.output ≡ take n y.output

-- what is given that is no telegram
abbrev Silent : Handled → Type 0
Silent v = (n : ℕ) → v ≡ sent n → ⊥

refuses_silent : (k : ℕ) → Silent (refuses k)
refuses_silent k n e = let z : ◌≡◌ {A = ℕ} 0 1 = cc in omega arith

not_mine_silent : Silent not_mine
not_mine_silent n e = let z : ◌≡◌ {A = ℕ} 0 1 = cc in omega arith

sent_once : (m n : ℕ) → sent m ≡ sent n → m ≡ n
sent_once m n e = cc

-- the two things that a call comes to, whatever the output
data Call (own : ℕ) (t tg : List ℕ) : Type 0 where
  silent : (v : Handled) → Silent v → ((out : List ℕ) → call_output ≤ length out → handling own t tg out ≡ leaving v t out) → Call own t tg
  sending : (x after : List ℕ) →
      ((out : List ℕ) → call_output ≤ length out → handling own t tg out ≡ leaving (sent (length x)) after (placed x out)) → Call own t tg

module _ (own : ℕ) (t tg : List ℕ) where
  module _ (address : is_address own ≡ true) (long : length t ≡ table_length) where
    module _ (h : Head) (order : reading Station tg ≡ sound h) where
      module _ (mine : first h.block ≡ own) where
        by_verdict : h.function ≡ Request → next h.block ≡ 0 → (v : Acceptance) → judged_body (body_of h tg) ≡ v → Call own t tg
        by_verdict request last accepts e =
            let after = after_writes (body_of h tg) t in
            sending (telegram_of (replied h) (reply_body (body_of h tg) after)) after
            (λ out room. call_accepted own t tg out h order address long mine room request last e)
        by_verdict request last (rejects k) e =
            silent (refuses k) (refuses_silent k) (λ out room. call_rejected own t tg out h order address long mine room request last k e)

        by_next : h.function ≡ Request → (n : ℕ) → next h.block ≡ n → Call own t tg
        by_next request zero e = by_verdict request e (judged_body (body_of h tg)) refl
        by_next request (suc n) e =
            sending (telegram_of (rolled_left h) (body_of h tg)) t
            (λ out room. call_request own t tg out h order address long mine room request (λ z. suc-ne-zero n (sym e ∙ z)))

        by_function : (f : Function) → h.function ≡ f → Call own t tg
        by_function Request e = by_next e (next h.block) refl
        by_function Reply e =
            sending (telegram_of (sent_back h) (body_of h tg)) t (λ out room. call_reply own t tg out h order address long mine room e)

      by_first : (c : Bool) → eqb (first h.block) own ≡ c → Call own t tg
      unfolding sending_by
      by_first true e = by_function (eqb-true (first h.block) own e) h.function refl
      by_first false e =
          let body = body_of h tg in
          let set = is_station_lem own t address long in
          silent not_mine not_mine_silent
          (λ out room. heard own t tg out set h order
          ∙ ap (λ (s : Step). taking s body out) (for_another own h body t (length out) set (eqb-false (first h.block) own e)))

    by_reading : (r : Reading) → reading Station tg ≡ r → Call own t tg
    by_reading (faulty k) e = silent (refuses k) (refuses_silent k) (λ out room. call_fault own t tg out k e address long)
    by_reading (sound h) e = by_first h e (eqb (first h.block) own) refl

  by_station : (c : Bool) → is_station own t ≡ c → Call own t tg
  unfolding is_station
  by_station true e =
      let both = (and-eq-true_iff (is_address own) (eqb (length t) table_length)).0 e in
      by_reading both.0 (eqb-true (length t) table_length both.1) (reading Station tg) refl
  by_station false e = silent (refuses 1) (refuses_silent 1) (λ out room. not_set_up own t tg out e)

-- the bytes placed are the same in both outputs
taken_same : (x out out₂ : List ℕ) (n : ℕ) → length x ≡ n → take n (placed x out) ≡ take n (placed x out₂)
taken_same x out out₂ n e =
    subst (λ (m : ℕ). take m (placed x out) ≡ take m (placed x out₂)) e (take_placed x out ∙ sym (take_placed x out₂))

same_by : (own : ℕ) (t tg out out₂ : List ℕ) → call_output ≤ length out → call_output ≤ length out₂ → Call own t tg →
    SameCall (handling own t tg out) (handling own t tg out₂)
same_by own t tg out out₂ room room₂ (silent v s e) =
    rw (e out room, e out₂ room₂) (record { handled = refl; registers = refl; bytes = λ n g. absurd (s n g) })
same_by own t tg out out₂ room room₂ (sending x after e) =
    rw (e out room, e out₂ room₂)
    (record { handled = refl; registers = refl; bytes = λ n g. taken_same x out out₂ n (sent_once (length x) n g) })

pub any_output : (a : ℕ) (t tg out out₂ : List ℕ) → call_output ≤ length out → call_output ≤ length out₂ →
    SameCall (handling a t tg out) (handling a t tg out₂)
any_output a t tg out out₂ room room₂ = same_by a t tg out out₂ room room₂ (by_station a t tg (is_station a t) refl)

-- the bytes sent are as many as the answer says
long_by : (own : ℕ) (t tg out : List ℕ) (n : ℕ) → call_output ≤ length out → Call own t tg → (handling own t tg out).handled ≡ sent n →
    length (take n (handling own t tg out).output) ≡ n
long_by own t tg out n room (silent v s e) g = absurd (s n (sym (ap (λ (h : Handling). h.handled) (e out room)) ∙ g))
long_by own t tg out n room (sending x after e) g =
    let same : length x ≡ n = sent_once (length x) n (sym (ap (λ (h : Handling). h.handled) (e out room)) ∙ g) in
    subst (λ (m : ℕ). length (take m (handling own t tg out).output) ≡ m) same
    (ap (λ (h : Handling). length (take (length x) h.output)) (e out room) ∙ ap length (take_placed x out))

pub sent_length : (a : ℕ) (t tg out : List ℕ) (n : ℕ) → call_output ≤ length out → (handling a t tg out).handled ≡ sent n →
    length (take n (handling a t tg out).output) ≡ n
sent_length a t tg out n room = long_by a t tg out n room (by_station a t tg (is_station a t) refl)
