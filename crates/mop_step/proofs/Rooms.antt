-- What a step sends has room, and the body of an answer has its places in the buffer.
-- Assumes nothing.
use mathlib.Core.Path.{◌≡◌, refl, sym, ◌∙◌, ap, subst}
use mathlib.Core.List.{List}
use Prim.Native.Nat.{ℕ, ◌+◌, ◌-◌, ◌≤◌}
use mathlib.Core.Bool.{Bool, true, false}
use borrow.Author.Tests.{le-leb, lt-leb, leb-true, leb-false}
use native.Mathlib.Omega.{arith}
use lib.Dec.{ltb, leb}
use lib.ListN.{length}
use Rattle.base.proofs.Choice.{pick_either}
use Rattle.mop_header.specs.Header.{Head, telegram_of}
use Rattle.mop_step.specs.Body.{after_writes}
use Rattle.mop_step.specs.Step.{Stepped, relays, answers, not_mine, refuses, Step, step, stepping, StepCall, lending, max_reply, RepliesFit, step_call_of}
use Rattle.mop_header.specs.declared.Header.{Header}
use Rattle.std.specs.Prelude.{Result, Ok}
use Rattle.refusal.specs.declared.Refusal.{Refusal}
use Rattle.mop_step.specs.declared.StationStep.{StationStep}
use Rattle.mop_step.specs.declared.StationStep.TheVariants.{Answered}
use Rattle.mop_step.proofs.Cases.{step_either}
use Rattle.mop_step.proofs.Steps.{in_place}
use Rattle.mop_step.proofs.Answers.{reply_bound}

abbrev pub Fits : Stepped → List ℕ → ℕ → Type 0
Fits (relays h) body room = length (telegram_of h body) ≤ room
Fits (answers h reply) body room = (length (telegram_of h reply) ≤ room) × (length reply ≤ max_reply)
Fits not_mine body room = Unit
Fits (refuses k) body room = Unit

pub step_fits : (own : ℕ) (h : Head) (body t : List ℕ) (room : ℕ) → Fits (stepping own h body t room).stepped body room
step_fits own h body t room =
    step_either own h body t room (λ (s : Step). Fits s.stepped body room) (λ k. tt) (λ l. l)
    (λ c l. (l, reply_bound body (after_writes body t) c.accepted)) tt

-- so in a buffer of as many places as an answer can have every one has its own
made_by : (s : Stepped) (after t reply body : List ℕ) (room : ℕ) → Fits s body room → max_reply ≤ length reply → (lending (step s after) t reply).made ≡ step s after
unfolding lending
made_by (relays h) after t reply body room f l = refl
made_by (answers h b) after t reply body room f l = ap (λ (c : StepCall). c.made) (in_place h b after t reply (omega (arith, f.1)))
made_by not_mine after t reply body room f l = refl
made_by (refuses k) after t reply body room f l = refl

count_by : (s : Stepped) (after t reply body : List ℕ) (room : ℕ) → Fits s body room → (lending (step s after) t reply).count ≤ max_reply
unfolding lending
count_by (relays h) after t reply body room f = omega arith
count_by (answers h b) after t reply body room f = pick_either (λ (c : StepCall). c.count ≤ max_reply) (ltb (length reply) (length b)) (omega arith) f.1
count_by not_mine after t reply body room f = omega arith
count_by (refuses k) after t reply body room f = omega arith

module _ (own : ℕ) (h : Head) (body t reply : List ℕ) (room : ℕ) where
  lent_made : max_reply ≤ length reply → (lending (stepping own h body t room) t reply).made ≡ stepping own h body t room
  lent_made places =
      let s = stepping own h body t room in
      made_by s.stepped s.registers t reply body room (step_fits own h body t room) places

  pub lent_count : (lending (stepping own h body t room) t reply).count ≤ max_reply
  lent_count = let s = stepping own h body t room in count_by s.stepped s.registers t reply body room (step_fits own h body t room)

  -- what a call of the step says of the step, by what it gave
  module _ (r : Result StationStep Refusal) (slice after buffer : List ℕ) (call : step_call_of r slice after buffer ≡ lending (stepping own h body t room) t reply) where
    pub answer_places : {g : Header} {n : ℕ} → r ≡ Ok (Answered g n) → n ≤ max_reply
    answer_places e =
        subst (λ (x : Result StationStep Refusal). (step_call_of x slice after buffer).count ≤ max_reply) e (subst (λ (x : StepCall). x.count ≤ max_reply) (sym call) lent_count)

    module _ (places : max_reply ≤ length reply) where
      made : (step_call_of r slice after buffer).made ≡ stepping own h body t room
      made = ap (λ (x : StepCall). x.made) call ∙ lent_made places

      pub made_as : {x : Result StationStep Refusal} → r ≡ x → (step_call_of x slice after buffer).made ≡ stepping own h body t room
      made_as e = subst (λ (x : Result StationStep Refusal). (step_call_of x slice after buffer).made ≡ stepping own h body t room) e made

      pub fits_as : {x : Result StationStep Refusal} → r ≡ x → Fits (step_call_of x slice after buffer).made.stepped body room
      fits_as e = subst (λ (s : Step). Fits s.stepped body room) (sym (made_as e)) (step_fits own h body t room)

pub replies_fit : RepliesFit
replies_fit own h body t room reply places = lent_made own h body t reply room places

-- a header, and the body behind it, by the room that the header leaves
pub behind_header : (n body room : ℕ) {m : ℕ} → m ≡ n → m ≤ room → leb body (room - m) ≡ leb (n + body) room
behind_header n body room {m} e h = go (leb body (room - m)) refl
  where
    go : (b : Bool) → leb body (room - m) ≡ b → leb body (room - m) ≡ leb (n + body) room
    go true t = t ∙ sym (le-leb (n + body) room (omega (arith, leb-true body (room - m) t)))
    go false f = f ∙ sym (lt-leb (n + body) room (omega (arith, leb-false body (room - m) f)))
