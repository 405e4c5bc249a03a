-- `read_reply`: by what reading the header gives.
-- Assumes nothing.
use Rattle.std.proofs.lemmas.Result.{err_from_is_err_and}
use mathlib.Core.Path.{sym, ap}
use Rattle.mop_centre.specs.Reply.{ReplyReading, receiving, unread}
use Rattle.mop_centre.proofs.Replies.{receipt_by, refused_read}
use Rattle.mop_centre.proofs.read_reply.Goals as goal

pub returns-in_err-header : goal.returns-in_err-header
unfolding receiving unread
returns-in_err-header c =
    let tg = c.args.telegram.now in
    let e = err_from_is_err_and c.from_residual.result c.from_residual.ensures.1 in
    rw (e.1, e.2) (sym (ap (λ (r : ReplyReading). r.answer) (refused_read tg (receipt_by tg c.in_err-header.ensures))))

pub receive-requires : goal.receive-requires
receive-requires c = sym c.in_ok-header.ensures
