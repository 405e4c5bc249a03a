-- Which registers a station looks at: none, unless it is the destination of a request.
-- Assumes nothing.
use mathlib.Core.Path.{◌≡◌, refl, sym, ◌∙◌, ap}
use mathlib.Core.Bool.{Bool, true, false}
use mathlib.Core.List.{List}
use Prim.Native.Nat.{ℕ, zero, suc}
use native.Mathlib.Nat.{suc-ne-zero}
use native.Mathlib.Omega.{arith}
use lib.Dec.{ltb}
use lib.ListN.{length}
use Rattle.base.specs.Choice.{pick}
use Rattle.mop_block.specs.Block.{first, next}
use Rattle.mop_header.specs.Header.{Head, telegram_of}
use Rattle.mop_header.specs.declared.Function.{Function}
use Rattle.mop_header.specs.declared.Function.TheVariants.{Request, Reply}
use Rattle.mop_step.specs.Body.{Acceptance, accepts, rejects, judged_body, after_writes, reply_body}
use Rattle.mop_step.specs.Step.{Stepped, relays, answers, refuses, Step, step, is_station, if_room, relayed, relaying, replied, answering, acting, stepping}
use Rattle.mop_step.proofs.Cases.{act_either}
use Rattle.mop_step.proofs.Steps.{for_this}
use Rattle.net_journey.proofs.Start.{reply_request}

module _ (h : Head) (body : List ℕ) (room : ℕ) where
  -- a relay, whatever its table
  relay_by : (t u : List ℕ) (s : Stepped) (short : Bool) →
      (pick short (step (refuses 11) t) (step s t)).stepped ≡ (pick short (step (refuses 11) u) (step s u)).stepped
  relay_by t u s true = refl
  relay_by t u s false = refl

  relay_same : (t u : List ℕ) → (relaying h body t room).stepped ≡ (relaying h body u room).stepped
  unfolding relaying if_room
  relay_same t u =
      let on = relayed h.function h in
      relay_by t u (relays on) (ltb room (length (telegram_of on body)))

  act_same : (t u : List ℕ) (f : Function) (n : ℕ) → (f ≡ Request → n ≡ 0 → t ≡ u) →
      (acting f n h body t room).stepped ≡ (acting f n h body u room).stepped
  unfolding acting
  act_same t u Request zero same = ap (λ (l : List ℕ). (answering (judged_body body) h body l room).stepped) (same refl refl)
  act_same t u Request (suc n) same = relay_same t u
  act_same t u Reply n same = relay_same t u

  -- the station that the first entry names, with two tables
  pub step_same : (own : ℕ) (t u : List ℕ) → is_station own t ≡ true → is_station own u ≡ true → first h.block ≡ own →
      (h.function ≡ Request → next h.block ≡ 0 → t ≡ u) → (stepping own h body t room).stepped ≡ (stepping own h body u room).stepped
  step_same own t u set set' mine same =
      rw (for_this own h body t room set mine, for_this own h body u room set' mine) (act_same t u h.function (next h.block) same)

  -- what is relayed: the header rolled; and a request that is relayed has a station behind the first
  module _ (t : List ℕ) {g : Head} where
    relay_header : (short : Bool) (on : Head) → (pick short (step (refuses 11) t) (step (relays on) t)).stepped ≡ relays g → g ≡ on
    relay_header true on e = let x : ◌≡◌ {A = ℕ} 0 1 = cc in absurd (omega arith)
    relay_header false on e = cc

    relaying_header : (relaying h body t room).stepped ≡ relays g → g ≡ relayed h.function h
    unfolding relaying if_room
    relaying_header e =
        let on = relayed h.function h in
        relay_header (ltb room (length (telegram_of on body))) on e

    answer_by : (short : Bool) (on : Head) (reply after : List ℕ) → (pick short (step (refuses 11) t) (step (answers on reply) after)).stepped ≡ relays g → ⊥
    answer_by true on reply after e = let x : ◌≡◌ {A = ℕ} 0 1 = cc in omega arith
    answer_by false on reply after e = let x : ◌≡◌ {A = ℕ} 0 1 = cc in omega arith

    answer_no_relay : (v : Acceptance) → (answering v h body t room).stepped ≡ relays g → ⊥
    unfolding answering if_room
    answer_no_relay (rejects k) e = let x : ◌≡◌ {A = ℕ} 0 1 = cc in omega arith
    answer_no_relay accepts e =
        let after = after_writes body t in
        let reply = reply_body body after in
        answer_by (ltb room (length (telegram_of (replied h) reply))) (replied h) reply after e

    act_relays : (f : Function) (n : ℕ) → (acting f n h body t room).stepped ≡ relays g → (g ≡ relayed h.function h) × (f ≡ Request → n ≡ 0 → ⊥)
    unfolding acting
    act_relays Request zero e = absurd (answer_no_relay (judged_body body) e)
    act_relays Request (suc n) e = (relaying_header e, λ r z. suc-ne-zero n z)
    act_relays Reply n e = (relaying_header e, λ r. absurd (reply_request r))

    pub step_relays : (own : ℕ) → is_station own t ≡ true → first h.block ≡ own → (stepping own h body t room).stepped ≡ relays g →
        (g ≡ relayed h.function h) × (h.function ≡ Request → next h.block ≡ 0 → ⊥)
    step_relays own set mine e =
        act_relays h.function (next h.block) (ap (λ (s : Step). s.stepped) (sym (for_this own h body t room set mine)) ∙ e)

    -- who answers: a station with a 00 behind the first entry, to a request
    pub step_answers : (own : ℕ) → is_station own t ≡ true → first h.block ≡ own → {reply : List ℕ} → (stepping own h body t room).stepped ≡ answers g reply →
        (h.function ≡ Request) × (next h.block ≡ 0)
    step_answers own set mine {reply} e =
        act_either own h body t room (λ (s : Step). s.stepped ≡ answers g reply → (h.function ≡ Request) × (next h.block ≡ 0))
        (λ k x. cc) (λ l x. cc)
        (λ c l x. (c.request, c.last)) mine (ap (λ (s : Step). s.stepped) (sym (for_this own h body t room set mine)) ∙ e)
