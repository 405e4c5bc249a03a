-- `carry_out`: 11, or the registers written and the body of the reply put.
-- Assumes nothing.
use Rattle.mop_step.proofs.Answers.{length_reply, read_room, carried_short, carried_no_place, carried_answered}
use Rattle.mop_step.proofs.Steps.{short_by, room_by}
use Rattle.mop_step.proofs.Bodies.{accepted}
use Rattle.mop_step.specs.Step.{replied}
use Rattle.mop_step.specs.Body.{after_writes}
use Rattle.mop_header.proofs.Turns.{at_slice}
use Rattle.mop_header.specs.Header.{head_of, sent_back}
use native.Mathlib.Omega.{arith}
use mathlib.Core.Path.{◌≡◌, refl, sym, ◌∙◌, ap}
use mathlib.Core.Bool.{not}
use Rattle.mop_step.proofs.carry_out.Goals as goal
use Rattle.mop_step.proofs.carry_out.Goals.{After-has_room, then-not-has_room-via-then-not-has_room, then-not-has_room-via-else-not-has_room+then-reply-n}

-- the header of the reply, where the room for it is looked at
sent : (s : After-has_room) →
    (let t = s.args.telegram in
    head_of s.sent_back-sent.result t.block.now ≡ replied (head_of t.header t.block.now))
unfolding replied
sent s = s.sent_back-sent.ensures ∙ ap sent_back (at_slice s.as_reply.ensures s.args.telegram.block.now)

pub bounds-body-2 : goal.bounds-body-2
bounds-body-2 c = omega (arith, (accepted c.args.telegram.body.now c.requires.body_value).long)

pub returns-then-not-has_room : goal.returns-then-not-has_room
returns-then-not-has_room c =
    let body = c.args.telegram.body.now in
    let size = sym (length_reply body (after_writes body c.args.registers.now)) in
    let good = accepted body c.requires.body_value in
    let same = sent (goal.at.returns-then-not-has_room c).After-has_room in
    elim c.then-not-has_room.branch [
      | then-not-has_room-via-then-not-has_room w ↦
          carried_short _ good _ _ _ _ same (short_by _ _ _ size (c.has_room.ensures c.args.telegram.block.now) (ap not w.if-not-has_room.true))
      | then-not-has_room-via-else-not-has_room+then-reply-n w ↦
          carried_no_place _ good _ _ _ _ same (room_by _ _ _ size (c.has_room.ensures c.args.telegram.block.now) (ap not w.if-not-has_room.false)) w.if-reply-n.true
    ]

pub write_registers-requires : goal.write_registers-requires
write_registers-requires c = omega (arith, (accepted c.args.telegram.body.now c.requires.body_value).long)

pub put_reply-requires : goal.put_reply-requires
put_reply-requires c =
    let body = c.args.telegram.body.now in
    let good = accepted body c.requires.body_value in
    record {
      in_bounds = omega (arith, good.long);
      body_in_bounds = omega (arith, read_room body good, c.requires.registers_len, c.write_registers.auto.registers);
      body_in_bounds_2 = omega arith;
    }

pub returns : goal.returns
returns c =
    let body = c.args.telegram.body.now in
    let size = sym (length_reply body (after_writes body c.args.registers.now)) in
    let room = room_by _ _ _ size (c.has_room.ensures c.args.telegram.block.now) (ap not c.if-not-has_room.false) in
    carried_answered _ (accepted _ c.requires.body_value) _ _ _ _ (sent (goal.at.returns c).After-has_room) room c.requires.registers_len refl c.if-reply-n.false
    c.write_registers.ensures c.put_reply.ensures
