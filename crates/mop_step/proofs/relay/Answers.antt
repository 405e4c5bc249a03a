-- `relay`: by the room.
-- Assumes nothing.
use Rattle.mop_step.proofs.Steps.{relay_short, relay_sent, short_by, room_by}
use Rattle.mop_step.specs.Step.{Step, lending}
use Rattle.mop_header.specs.Header.{head_of}
use mathlib.Core.Path.{refl, sym, ap}
use mathlib.Core.Bool.{not}
use Rattle.mop_step.proofs.relay.Goals as goal

pub returns-then-not-has_room : goal.returns-then-not-has_room
unfolding lending
returns-then-not-has_room c =
    let a = c.args in
    let sent = c.relayed_header-sent in
    λ t reply. sym (ap (λ (s : Step). lending s t reply) (relay_short (head_of a.telegram.header a.telegram.block.now) a.telegram.body.now t a.room sent.ensures (short_by _ a.telegram.body.now a.room refl (c.has_room.ensures a.telegram.block.now) (ap not c.if-not-has_room.true))))

pub returns : goal.returns
unfolding lending
returns c =
    let a = c.args in
    let sent = c.relayed_header-sent in
    λ t reply. sym (ap (λ (s : Step). lending s t reply) (relay_sent (head_of a.telegram.header a.telegram.block.now) a.telegram.body.now t a.room sent.ensures (room_by _ a.telegram.body.now a.room refl (c.has_room.ensures a.telegram.block.now) (ap not c.if-not-has_room.false))))
