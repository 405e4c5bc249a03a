-- `tell_reply`: zeros, or what an accepted reply says.
-- Assumes nothing.
use Rattle.std.proofs.lemmas.Result.{err_from_is_err_and}
use mathlib.Core.Path.{◌≡◌, refl, ◌∙◌, ap}
use Prim.Native.Nat.{ℕ}
use lib.ListN.{length, replicate}
use Rattle.std.specs.Prelude.{Ok, Some, None}
use Rattle.mop_centre.specs.Reply.{answer_of, reply_reading}
use Rattle.mop_centre.specs.Request.{max_route}
use Rattle.mop_centre.proofs.Replies.{stretch_room}
use Rattle.c_mop.proofs.Replies.{places_parts, values_long, place_small, tells}
use borrow.Author.Rules.{rules}
use Rattle.c_mop.proofs.tell_reply.Goals as goal
use Rattle.c_mop.proofs.tell_reply.Goals.{After-copy_from_slice, In-Some}

pub copy_from_slice-requires : goal.copy_from_slice-requires
copy_from_slice-requires c = (places_parts _ _ c.requires).run_long

-- both have zeros first
module _ (c : After-copy_from_slice) where
  route_zeros : c.fill.new.self ≡ replicate max_route 0
  route_zeros = c.fill.ensures.after (λ y e. e) ∙ ap (λ (n : ℕ). replicate n 0) (places_parts _ _ c.requires).route_long

  run_zeros : c.copy_from_slice.new.self ≡ replicate 3 0
  run_zeros = c.copy_from_slice.ensures.after

told : (c : In-Some) → answer_of (Ok (Some c.in-Some.reply)) ≡ (reply_reading c.args.telegram.now).answer
told c = rw c.in-Some.is at c.in_ok-reply.ensures

pub returns-in_err-reply : goal.returns-in_err-reply
returns-in_err-reply c =
    let e = err_from_is_err_and c.from_residual.result c.from_residual.ensures.1 in
    let z = (goal.at.returns-in_err-reply c).After-copy_from_slice in
    rw (e.1, e.2) (tells _ c.in_err-reply.ensures refl refl (route_zeros z) (run_zeros z))

pub returns-in_default : goal.returns-in_default
returns-in_default c =
    let z = (goal.at.returns-in_default c).After-copy_from_slice in
    let is : answer_of (Ok None) ≡ (reply_reading c.args.telegram.now).answer = rw c.in_default.is at c.in_ok-reply.ensures in
    tells _ is refl refl (route_zeros z) (run_zeros z)

pub copy_from_slice-requires-2 : goal.copy_from_slice-requires-2
copy_from_slice-requires-2 c =
    let all = ap length (route_zeros (goal.at.copy_from_slice-requires-2 c).After-copy_from_slice) in
    search rules

pub overflow_cast-reply-2 : goal.overflow_cast-reply-2
overflow_cast-reply-2 c = search (rules, place_small _ (told (goal.at.overflow_cast-reply-2 c).In-Some))

pub copy_from_slice-requires-3 : goal.copy_from_slice-requires-3
copy_from_slice-requires-3 c = ap length (run_zeros (goal.at.copy_from_slice-requires-3 c).After-copy_from_slice)

pub overflow_sub-result : goal.overflow_sub-result
overflow_sub-result c = stretch_room _ (told (goal.at.overflow_sub-result c).In-Some) refl

pub returns : goal.returns
returns c =
    let is = told (goal.at.returns c).In-Some in
    tells _ is refl (values_long _ is refl) c.copy_from_slice-2.ensures.after c.copy_from_slice-3.ensures.after
