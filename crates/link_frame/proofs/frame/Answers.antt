-- `frame`: each return is a case of framing. The longest frame of the data is twice its length and three bytes more.
-- Assumes nothing.
use Prim.Native.Nat.{◌+◌, ◌≤◌}
use native.Mathlib.Omega.{arith}
use mathlib.Core.Path.{sym, ◌∙◌}
use lib.ListN.{length}
use borrow.Author.Rules.{rules}
use Rattle.link_frame.specs.Frame.{doubled}
use Rattle.link_frame.proofs.Doubling.{doubled_bound}
use Rattle.link_frame.proofs.Framing.{framing_long, framing_short, framing_room}
use Rattle.link_frame.proofs.frame.Goals as goal
use Rattle.link_frame.proofs.frame.Goals.{else-out-n-via-then-out-n+else-out-doubled_length, else-out-n-via-else-out-n}

pub returns-then-n-gt-MAX_DATA : goal.returns-then-n-gt-MAX_DATA
returns-then-n-gt-MAX_DATA c = sym (framing_long c.args.src.now c.args.out.now (omega arith))

pub overflow_add-doubled_length : goal.overflow_add-doubled_length
overflow_add-doubled_length c = search (rules, doubled_bound c.args.src.now)

pub returns-then-out-doubled_length : goal.returns-then-out-doubled_length
returns-then-out-doubled_length c =
    let a = c.args in
    sym (framing_short a.src.now a.out.now (omega arith) (omega arith))

pub write_frame-requires : goal.write_frame-requires
write_frame-requires c =
    elim c.else-out-n.branch [
      | else-out-n-via-then-out-n+else-out-doubled_length w ↦ omega arith
      | else-out-n-via-else-out-n w ↦ omega (arith, doubled_bound c.args.src.now)
    ]

pub returns : goal.returns
returns c =
    let a = c.args in
    let room : length (doubled a.src.now) + 3 ≤ length a.out.now =
    elim c.else-out-n.branch [
      | else-out-n-via-then-out-n+else-out-doubled_length w ↦ omega arith
      | else-out-n-via-else-out-n w ↦ omega (arith, doubled_bound a.src.now)
    ]
    in
    c.write_frame.ensures ∙ sym (framing_room a.src.now a.out.now (omega arith) room)
