-- `read_reply_values`: by the verdict; the stretch begins at the place that the answer tells.
-- Assumes nothing.
use mathlib.Core.Path.{◌≡◌, refl}
use native.Mathlib.Omega.{arith}
use native.Mathlib.Nat.{zero-add}
use Rattle.std.specs.Prelude.{Ok, Some, None}
use Rattle.mop_centre.specs.Reply.{answer_of, reply_reading, unread}
use Rattle.mop_centre.proofs.Replies.{receipt_told, stretch_room, stretch_bytes, stretch_place, not_mine_read, refused_read}
use Rattle.mop_centre.proofs.read_reply_values.Goals as goal
use Rattle.mop_centre.proofs.read_reply_values.Goals.{In-Ok-Some}

-- what an accepted reply tells
told : (c : In-Ok-Some) → answer_of (Ok (Some c.in-Ok-Some.reply)) ≡ (reply_reading c.args.telegram.now).answer
told c = rw c.in-Ok-Some.field-0-is at c.in-Ok-Some.ensures

pub slice_bounds-result-count : goal.slice_bounds-result-count
slice_bounds-result-count c = stretch_room c.args.telegram.now (told (goal.at.slice_bounds-result-count c).In-Ok-Some) refl

pub slice_bounds-result-start : goal.slice_bounds-result-start
slice_bounds-result-start c = slice_bounds-result-count c

pub returns-in-Ok-Some : goal.returns-in-Ok-Some
returns-in-Ok-Some c =
    let tg = c.args.telegram.now in
    let is = told (goal.at.returns-in-Ok-Some c).In-Ok-Some in
    record { result_value = stretch_bytes tg is refl; begins = rw (stretch_place tg is refl) refl }

pub returns-in-Ok-None : goal.returns-in-Ok-None
unfolding unread
returns-in-Ok-None c =
    let tg = c.args.telegram.now in
    let is : answer_of (Ok None) ≡ (reply_reading tg).answer = rw c.in-Ok-None.field-0-is at c.in-Ok-None.ensures in
    rw (not_mine_read tg (receipt_told tg is refl)) record { result_value = refl; begins = (0, omega arith, rw zero-add refl) }

pub returns-in-Err : goal.returns-in-Err
unfolding unread
returns-in-Err c =
    let tg = c.args.telegram.now in
    rw (refused_read tg (receipt_told tg c.in-Err.ensures refl)) record { result_value = refl; begins = (0, omega arith, rw zero-add refl) }
