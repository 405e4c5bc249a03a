-- What holds of each thing that a step can come to holds of the step.
-- Assumes nothing.
use mathlib.Core.Path.{◌≡◌, refl}
use mathlib.Core.Bool.{Bool, true, false, not}
use mathlib.Core.List.{List}
use Prim.Native.Nat.{ℕ, zero, suc, ◌≤◌}
use borrow.Author.Tests.{eqb-true, ltb-false}
use lib.Dec.{eqb, ltb}
use lib.ListN.{length}
use Rattle.base.specs.Choice.{pick}
use Rattle.base.proofs.Choice.{pick_either}
use Rattle.mop_block.specs.Block.{first, next}
use Rattle.mop_header.specs.Header.{Head, telegram_of}
use Rattle.mop_header.specs.declared.Function.{Function}
use Rattle.mop_header.specs.declared.Function.TheVariants.{Request, Reply}
use Rattle.mop_step.specs.Body.{Acceptance, accepts, rejects, judged_body, after_writes, reply_body}
use Rattle.mop_step.specs.Step.{relays, answers, not_mine, refuses, Step, step, is_station, if_room, relayed, relaying, replied, answering, acting, stepping}
use Rattle.mop_step.specs.Safety.{CarriesOut}

-- refused; relayed, with room for what is sent; or carried out and answered, with room for the reply
module _ (own : ℕ) (h : Head) (body t : List ℕ) (room : ℕ) (P : Step → Type 0) (refused : (k : ℕ) → P (step (refuses k) t))
    (passed : length (telegram_of (relayed h.function h) body) ≤ room → P (step (relays (relayed h.function h)) t))
    (carried : (let after = after_writes body t in let reply = reply_body body after in
    CarriesOut own h body t after → length (telegram_of (replied h) reply) ≤ room → P (step (answers (replied h) reply) after))) where
  room_by : (telegram : List ℕ) (s : Step) (short : Bool) → ltb room (length telegram) ≡ short → (length telegram ≤ room → P s) →
      P (pick short (step (refuses 11) t) s)
  room_by telegram s true e p = refused 11
  room_by telegram s false e p = p (ltb-false room (length telegram) e)

  if_room_lem : (telegram : List ℕ) (s : Step) → (length telegram ≤ room → P s) → P (if_room room telegram t s)
  unfolding if_room
  if_room_lem telegram s p = room_by telegram s (ltb room (length telegram)) refl p

  relay_either : P (relaying h body t room)
  unfolding relaying
  relay_either = if_room_lem (telegram_of (relayed h.function h) body) _ passed

  module _ (mine : first h.block ≡ own) where
    answer_either : h.function ≡ Request → next h.block ≡ 0 → (v : Acceptance) → judged_body body ≡ v → P (answering v h body t room)
    unfolding answering
    answer_either f z (rejects k) e = refused k
    answer_either f z accepts e =
        if_room_lem (telegram_of (replied h) (reply_body body (after_writes body t))) _
        (carried (record { request = f; mine = mine; last = z; accepted = e; all = refl }))

    by_function : (f : Function) → h.function ≡ f → (n : ℕ) → next h.block ≡ n → P (acting f n h body t room)
    unfolding acting
    by_function Request e zero z = answer_either e z (judged_body body) refl
    by_function Request e (suc n) z = relay_either
    by_function Reply e n z = relay_either

    pub act_either : P (acting h.function (next h.block) h body t room)
    act_either = by_function h.function refl (next h.block) refl

  mine_either : P (step not_mine t) → (b : Bool) → eqb (first h.block) own ≡ b → P (pick b (acting h.function (next h.block) h body t room) (step not_mine t))
  mine_either p true e = act_either (eqb-true (first h.block) own e)
  mine_either p false e = p

  -- or for another station
  pub step_either : P (step not_mine t) → P (stepping own h body t room)
  unfolding stepping
  step_either p = pick_either P (not (is_station own t)) (refused 1) (mine_either p (eqb (first h.block) own) refl)
