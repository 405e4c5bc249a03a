-- `has_room`: the header, then the body behind it.
-- Assumes nothing.
use Rattle.mop_header.specs.Header.{head_of, header_length}
use borrow.Author.Tests.{lt-leb}
use native.Mathlib.Omega.{arith}
use mathlib.Core.Path.{sym, ◌∙◌}
use Prim.Native.Nat.{◌+◌}
use Rattle.mop_step.proofs.Rooms.{behind_header}
use Rattle.mop_step.proofs.has_room.Goals as goal

pub returns-then-n-room : goal.returns-then-n-room
returns-then-n-room c =
    λ slice. let a = c.args in
    behind_header (header_length (head_of a.header slice)) a.body a.room (c.length-n.ensures slice) c.if-n-room.true

pub returns-else-n-room : goal.returns-else-n-room
returns-else-n-room c =
    λ slice. let a = c.args in
    lt-leb c.length-n.result a.room c.if-n-room.false ∙ sym (lt-leb (header_length (head_of a.header slice) + a.body) a.room (omega (arith, c.length-n.ensures slice)))
