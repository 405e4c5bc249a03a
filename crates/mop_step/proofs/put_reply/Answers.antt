-- `put_reply`: three bytes as they came, and the bytes of the values behind them.
-- Assumes nothing.
use Rattle.mop_step.proofs.Stores.{reply_stored}
use Rattle.mop_registers.specs.Rows.{place_of}
use lib.Seq.{length-take-le}
use lib.ListN.{length, get_or, take, drop, length-drop}
use native.Mathlib.Omega.{arith}
use mathlib.Core.Path.{◌≡◌, ◌∙◌, ap}
use Prim.Native.Nat.{◌+◌, ◌-◌, ◌≤◌}
use borrow.Author.Rules.{rules}
use Rattle.mop_step.proofs.put_reply.Goals as goal

pub overflow_add-end : goal.overflow_add-end
overflow_add-end c =
    let place = c.place_of-at.ensures ∙ ap place_of c.word_of-start.ensures in
    omega arith

pub offset_bounds-registers-at : goal.offset_bounds-registers-at
offset_bounds-registers-at c =
    let p = c in
    let place = p.place_of-at.ensures ∙ ap place_of p.word_of-start.ensures in
    let inside : p.place_of-at.result ≤ length p.args.registers.now = omega arith in
    search rules

pub slice_bounds-put_words-end : goal.slice_bounds-put_words-end
slice_bounds-put_words-end c =
    let p = c in
    let place = p.place_of-at.ensures ∙ ap place_of p.word_of-start.ensures in
    omega arith

pub returns : goal.returns
returns c =
    let three = c in
    let p = three in
    let a = p.args in
    let at = p.place_of-at.result in
    let n = get_or a.body.now 2 0 in
    let place = p.place_of-at.ensures ∙ ap place_of p.word_of-start.ensures in
    let end : (at + n) - at ≡ n = omega arith in
    let values = take n (drop at a.registers.now) in
    let long : length values ≡ n = length-take-le n (drop at a.registers.now) (rw length-drop (omega arith)) in
    rw (c.put_words.ensures, end, ← place)
    (reply_stored a.body.now values a.reply.now (omega arith) (omega arith) three.put.ensures)
