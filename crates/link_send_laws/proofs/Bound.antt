-- The bound. Each state has a number of openings and of blocks that may still go out before the next yield; a turn that does
-- not yield takes from them what it sends.
-- Assumes nothing.
use mathlib.Core.Path.{◌≡◌, refl, sym, ap}
use mathlib.Core.Bool.{true, false, ◌&&◌, false≢true}
use mathlib.Core.List.{List, [], ◌∷◌, ◌++◌, append-nil}
use Prim.Native.Nat.{ℕ, suc, ◌+◌, ◌-◌, ◌*◌, ◌<◌, ◌≤◌}
use native.Mathlib.Nat.{suc-mul, mul_comm}
use native.Mathlib.Omega.{arith}
use borrow.Author.Tests.{ltb-true}
use lib.Dec.{ltb, eqb}
use Rattle.base.proofs.Choice.{pick_by, pick_either}
use Rattle.link_frame.specs.ControlBytes.{STX, DLE}
use Rattle.link_receive.specs.Receive as half
use Rattle.link_receive.specs.Receive.{Response, Reaction, receive_of}
use Rattle.events.specs.declared.Event.TheVariants as heard
use Rattle.link_receive.specs.declared.LinkState.{LinkState}
use Rattle.link_receive.specs.declared.Phase.{Phase}
use Rattle.link_receive.specs.declared.Phase.TheVariants.{Rest, Inside, Waiting}
use Rattle.link_send.specs.Send.{Part, opening, answer_byte, block, Turn, sending, into, begun, connection_fails, block_fails, collision, opening_byte, awaiting_byte, answer_parts, relaying, at_phase, after_half, fresh_of, opening_of, awaiting_of, receiving_of, in_phase, turn_of, Sending}
use Rattle.link_send.specs.declared.Attempts.{Attempts}
use Rattle.link_send.specs.declared.Priority.{Priority}
use Rattle.link_send.specs.declared.Priority.TheVariants.{Low, High}
use Rattle.link_send.specs.declared.SendEvent.{SendEvent}
use Rattle.link_send.specs.declared.SendEvent.TheVariants.{Start, Byte, Timer}
use Rattle.link_send.specs.declared.SendPhase.{SendPhase}
use Rattle.link_send.specs.declared.SendPhase.TheVariants.{Fresh, Opening, Awaiting, Receiving, Sent, GaveUp}
use Rattle.link_send.specs.declared.Sender.{Sender}
use Rattle.link_send_laws.specs.Runs.{Call, called_at, is_opening, is_receiving, yields, until_yield, openings, blocks, Begins, not_started, yielded, Bounded}
use Rattle.link_send_laws.proofs.Calls.{Came, setup, long, short, turned, came}

-- openings that may still go out; the one that is being answered has gone out already
abbrev openings_in : SendPhase → Attempts → Attempts → ℕ
openings_in Fresh m f = m.blocks * m.connections
openings_in Opening m f = m.connections - (f.connections + 1) + (m.blocks - (f.blocks + 1)) * m.connections
openings_in Awaiting m f = (m.blocks - (f.blocks + 1)) * m.connections
openings_in (Receiving h) m f = m.blocks * m.connections
openings_in Sent m f = 0
openings_in GaveUp m f = 0

abbrev openings_left : Sender → ℕ
openings_left s = openings_in s.phase s.limits s.failed

-- blocks that may still go out
abbrev blocks_in : SendPhase → Attempts → Attempts → ℕ
blocks_in Fresh m f = m.blocks
blocks_in Opening m f = m.blocks - f.blocks
blocks_in Awaiting m f = m.blocks - (f.blocks + 1)
blocks_in (Receiving h) m f = m.blocks
blocks_in Sent m f = 0
blocks_in GaveUp m f = 0

abbrev blocks_left : Sender → ℕ
blocks_left s = blocks_in s.phase s.limits s.failed

-- while an opening is answered, there is a block to send
abbrev BlockLeftIn : SendPhase → Attempts → Attempts → Type 0
BlockLeftIn Fresh m f = Unit
BlockLeftIn Opening m f = f.blocks < m.blocks
BlockLeftIn Awaiting m f = Unit
BlockLeftIn (Receiving h) m f = Unit
BlockLeftIn Sent m f = Unit
BlockLeftIn GaveUp m f = Unit

abbrev BlockLeft : Sender → Type 0
BlockLeft s = BlockLeftIn s.phase s.limits s.failed

-- what goes out is taken from what may still go out, which are so many openings and so many blocks
pub record Leaves (most-openings most-blocks : ℕ) (parts : List Part) (next : Sender) : Type 0 where
  pub of_openings : openings parts + openings_left next ≤ most-openings
  pub of_blocks : blocks parts + blocks_left next ≤ most-blocks
  pub block_left : BlockLeft next

abbrev LeavesIn : SendPhase → Sender → List Part → Sender → Type 0
LeavesIn p s parts next = Leaves (openings_in p s.limits s.failed) (blocks_in p s.limits s.failed) parts next

-- unless the sender yields
abbrev TurnLeaves : SendPhase → Sender → Turn → Type 0
TurnLeaves p s t = (is_opening p && is_receiving t.next.phase) ≡ false → LeavesIn p s t.parts t.next

-- the openings of one attempt to send the block, out of those of all that are left
one_attempt : (m n c : ℕ) → n < m → 0 < c → 1 + (c - (0 + 1) + (m - (n + 1)) * c) ≤ (m - n) * c
one_attempt m n c h k =
    let e : m - n ≡ suc (m - (n + 1)) = omega arith in
    rw (e, suc-mul) (omega arith)

all_attempts : (m c : ℕ) → 0 < m → 0 < c → 1 + (c - (0 + 1) + (m - (0 + 1)) * c) ≤ m * c
all_attempts m c h k =
    let e : m ≡ suc (m - (0 + 1)) = omega arith in
    omega (arith, suc-mul (m - (0 + 1)) c, ap (λ (x : ℕ). x * c) e)

module _ (s : Sender) (good : (0 < s.limits.connections) × (0 < s.limits.blocks)) where
  -- nothing goes out, and the state is the same
  stays : (p : SendPhase) → BlockLeftIn p s.limits s.failed → s.phase ≡ p → TurnLeaves p s (sending [] s)
  unfolding openings blocks
  stays p f e = λ _. record { of_openings = rw e (omega arith); of_blocks = rw e (omega arith); block_left = rw e f }

  -- a sender begins, or begins afresh
  begins : {parts : List Part} → openings parts ≡ 1 → blocks parts ≡ 0 →
      Leaves (s.limits.blocks * s.limits.connections) s.limits.blocks parts (begun s)
  begins o b =
      record {
        of_openings = rw o (all_attempts s.limits.blocks s.limits.connections good.1 good.0);
        of_blocks = rw b (omega arith);
        block_left = good.1;
      }

  fresh_leaves : (e : SendEvent) → s.phase ≡ Fresh → TurnLeaves Fresh s (fresh_of e s)
  unfolding fresh_of openings blocks
  fresh_leaves Start h = λ _. begins refl refl
  fresh_leaves (Byte b) h = stays Fresh tt h
  fresh_leaves Timer h = stays Fresh tt h

  module _ (left : s.failed.blocks < s.limits.blocks) where
    connection_leaves : TurnLeaves Opening s (connection_fails s)
    unfolding connection_fails openings blocks
    connection_leaves =
        pick_by (TurnLeaves Opening s) (ltb (s.failed.connections + 1) s.limits.connections)
        (λ more _.
        let again : s.failed.connections + 1 < s.limits.connections = ltb-true _ _ more in
        record { of_openings = omega arith; of_blocks = omega arith; block_left = left })
        (λ none _. record { of_openings = omega arith; of_blocks = omega arith; block_left = tt })

    collision_leaves : (p : Priority) → s.phase ≡ Opening → TurnLeaves Opening s (collision p s)
    collision_leaves Low h = λ n. absurd (false≢true (sym n))
    collision_leaves High h = stays Opening left h

    opening_leaves : (e : SendEvent) → s.phase ≡ Opening → TurnLeaves Opening s (opening_of e s)
    unfolding opening_of opening_byte openings blocks
    opening_leaves Start h = stays Opening left h
    opening_leaves (Byte b) h =
        pick_either (TurnLeaves Opening s) (eqb b DLE)
        (λ _. record { of_openings = omega arith; of_blocks = omega arith; block_left = tt })
        (pick_either (TurnLeaves Opening s) (eqb b STX) (collision_leaves s.priority h) connection_leaves)
    opening_leaves Timer h = connection_leaves

  block_leaves : TurnLeaves Awaiting s (block_fails s)
  unfolding block_fails openings blocks
  block_leaves =
      pick_by (TurnLeaves Awaiting s) (ltb (s.failed.blocks + 1) s.limits.blocks)
      (λ more _.
      let again = ltb-true _ _ more in
      record {
        of_openings = one_attempt s.limits.blocks (s.failed.blocks + 1) s.limits.connections again good.0;
        of_blocks = omega arith;
        block_left = again;
      })
      (λ none _. record { of_openings = omega arith; of_blocks = omega arith; block_left = tt })

  awaiting_leaves : (e : SendEvent) → s.phase ≡ Awaiting → TurnLeaves Awaiting s (awaiting_of e s)
  unfolding awaiting_of awaiting_byte openings blocks
  awaiting_leaves Start h = stays Awaiting tt h
  awaiting_leaves (Byte b) h =
      pick_either (TurnLeaves Awaiting s) (eqb b DLE)
      (λ _. record { of_openings = omega arith; of_blocks = omega arith; block_left = tt })
      block_leaves
  awaiting_leaves Timer h = block_leaves

  -- the half's answer has no opening and no block in it
  no_openings : (r : Response) (ps : List Part) → openings (answer_parts r ++ ps) ≡ openings ps
  unfolding openings
  no_openings half.nothing ps = refl
  no_openings (half.sends b) ps = refl
  no_openings (half.delivers b n) ps = refl
  no_openings (half.refuses k) ps = refl

  no_blocks : (r : Response) (ps : List Part) → blocks (answer_parts r ++ ps) ≡ blocks ps
  unfolding blocks
  no_blocks half.nothing ps = refl
  no_blocks (half.sends b) ps = refl
  no_blocks (half.delivers b n) ps = refl
  no_blocks (half.refuses k) ps = refl

  module _ (h : LinkState) where
    goes_on : (r : Reaction) → TurnLeaves (Receiving h) s (relaying r.response [] (into s s.failed (Receiving r.next)))
    unfolding openings blocks
    goes_on r = λ _.
        record {
          of_openings = omega (arith, no_openings r.response []);
          of_blocks = omega (arith, no_blocks r.response []);
          block_left = tt;
        }

    phase_leaves : (p : Phase) (r : Reaction) → TurnLeaves (Receiving h) s (at_phase p s r)
    unfolding openings blocks
    phase_leaves Rest r = λ _. begins (no_openings r.response (opening ∷ [])) (no_blocks r.response (opening ∷ []))
    phase_leaves (Inside d) r = goes_on r
    phase_leaves Waiting r = goes_on r

    receiving_leaves : (e : SendEvent) (buf : List ℕ) → s.phase ≡ Receiving h → TurnLeaves (Receiving h) s (receiving_of e h s buf).turn
    unfolding receiving_of after_half
    receiving_leaves Start buf e = stays (Receiving h) tt e
    receiving_leaves (Byte b) buf e = phase_leaves (receive_of h (heard.Byte b) buf).reaction.next.phase (receive_of h (heard.Byte b) buf).reaction
    receiving_leaves Timer buf e = phase_leaves (receive_of h heard.Timer buf).reaction.next.phase (receive_of h heard.Timer buf).reaction

  turn_leaves : (p : SendPhase) (e : SendEvent) (buf : List ℕ) → BlockLeftIn p s.limits s.failed → s.phase ≡ p → TurnLeaves p s (in_phase p e s buf).turn
  turn_leaves Fresh e buf f h = fresh_leaves e h
  turn_leaves Opening e buf f h = opening_leaves f e h
  turn_leaves Awaiting e buf f h = awaiting_leaves e h
  turn_leaves (Receiving l) e buf f h = receiving_leaves l e buf h
  turn_leaves Sent e buf f h = stays Sent tt h
  turn_leaves GaveUp e buf f h = stays GaveUp tt h

-- a call, of which a turn is one case
abbrev CallLeaves : Sender → Sending → Type 0
CallLeaves s r =
    (is_opening s.phase && is_receiving r.outcome.reaction.next.phase) ≡ false →
    LeavesIn s.phase s r.parts r.outcome.reaction.next

refused_leaves : (s : Sender) → BlockLeft s → LeavesIn s.phase s [] s
unfolding openings blocks
refused_leaves s f = record { of_openings = omega arith; of_blocks = omega arith; block_left = f }

call_leaves : (s : Sender) (c : Call) → BlockLeft s → {r : Sending} → Came s c r → CallLeaves s r
unfolding turn_of
call_leaves s c f setup = λ _. refused_leaves s f
call_leaves s c f long = λ _. refused_leaves s f
call_leaves s c f (short less) = λ _. refused_leaves s f
call_leaves s c f (turned ok room) = turn_leaves s (ok.connections.0, ok.blocks.0) s.phase c.event c.buffer f refl

-- A call that yields sends no opening and no block.
abbrev Neither : List Part → Type 0
Neither ps = (openings ps ≡ 0) × (blocks ps ≡ 0)

neither : Neither []
unfolding openings blocks
neither = (refl, refl)

abbrev YieldsNeither : Turn → Type 0
YieldsNeither t = is_receiving t.next.phase ≡ true → Neither t.parts

module _ (s : Sender) where
  connection_neither : YieldsNeither (connection_fails s)
  unfolding connection_fails
  connection_neither =
      pick_either YieldsNeither (ltb (s.failed.connections + 1) s.limits.connections)
      (λ h. absurd (false≢true h))
      (λ h. absurd (false≢true h))

  collision_neither : (p : Priority) → YieldsNeither (collision p s)
  unfolding openings blocks
  collision_neither Low = λ h. (refl, refl)
  collision_neither High = λ h. neither

  opening_neither : (e : SendEvent) → YieldsNeither (opening_of e s)
  unfolding opening_of opening_byte
  opening_neither Start = λ h. neither
  opening_neither (Byte b) =
      pick_either YieldsNeither (eqb b DLE)
      (λ h. absurd (false≢true h))
      (pick_either YieldsNeither (eqb b STX) (collision_neither s.priority) connection_neither)
  opening_neither Timer = connection_neither

  phase_neither : (p : SendPhase) (e : SendEvent) (buf : List ℕ) →
      (is_opening p && is_receiving (in_phase p e s buf).turn.next.phase) ≡ true → Neither (in_phase p e s buf).turn.parts
  phase_neither Fresh e buf h = absurd (false≢true h)
  phase_neither Opening e buf h = opening_neither e h
  phase_neither Awaiting e buf h = absurd (false≢true h)
  phase_neither (Receiving l) e buf h = absurd (false≢true h)
  phase_neither Sent e buf h = absurd (false≢true h)
  phase_neither GaveUp e buf h = absurd (false≢true h)

call_neither : (s : Sender) (c : Call) {r : Sending} → Came s c r →
    (is_opening s.phase && is_receiving r.outcome.reaction.next.phase) ≡ true → Neither r.parts
unfolding turn_of
call_neither s c setup h = neither
call_neither s c long h = neither
call_neither s c (short less) h = neither
call_neither s c (turned ok room) h = phase_neither s s.phase c.event c.buffer h

-- parts one after the other
openings_append : (ps qs : List Part) → openings (ps ++ qs) ≡ openings ps + openings qs
unfolding openings
openings_append [] qs = omega arith
openings_append (opening ∷ ps) qs = rw (openings_append ps qs) (omega arith)
openings_append (answer_byte b ∷ ps) qs = openings_append ps qs
openings_append (block ∷ ps) qs = openings_append ps qs

blocks_append : (ps qs : List Part) → blocks (ps ++ qs) ≡ blocks ps + blocks qs
unfolding blocks
blocks_append [] qs = omega arith
blocks_append (opening ∷ ps) qs = blocks_append ps qs
blocks_append (answer_byte b ∷ ps) qs = blocks_append ps qs
blocks_append (block ∷ ps) qs = rw (blocks_append ps qs) (omega arith)

-- what goes out before the next yield
abbrev Within : Sender → List Part → Type 0
Within s ps = (openings ps ≤ openings_left s) × (blocks ps ≤ blocks_left s)

nothing_within : (s : Sender) → Within s []
unfolding openings blocks
nothing_within s = (omega arith, omega arith)

none_within : (s : Sender) (ps : List Part) → Neither ps → Within s (ps ++ [])
none_within s ps n = rw (append-nil ps, n.0, n.1) (omega arith, omega arith)

one_more : (s next : Sender) (ps qs : List Part) → LeavesIn s.phase s ps next → Within next qs → Within s (ps ++ qs)
one_more s next ps qs p w =
    (rw (openings_append ps qs) (omega (arith, p.of_openings, w.0)), rw (blocks_append ps qs) (omega (arith, p.of_blocks, w.1)))

within : (cs : List Call) (s : Sender) → BlockLeft s → Within s (until_yield s cs)
unfolding until_yield
within [] s f = nothing_within s
within (c ∷ cs) s f =
    pick_by (λ (rest : List Part). Within s ((called_at s c).parts ++ rest)) (yields s c)
    (λ yes. none_within s (called_at s c).parts (call_neither s c (came s c) yes))
    (λ not-now.
    let p = call_leaves s c f (came s c) not-now in
    one_more s (called_at s c).outcome.reaction.next (called_at s c).parts _ p
    (within cs (called_at s c).outcome.reaction.next p.block_left))

-- where a bound begins, all may still go out
begins_left : {p : SendPhase} (m f : Attempts) → Begins p → BlockLeftIn p m f
begins_left m f not_started = tt
begins_left m f (yielded h) = tt

begins_all : {p : SendPhase} (m f : Attempts) → Begins p → (openings_in p m f ≡ m.connections * m.blocks) × (blocks_in p m f ≡ m.blocks)
begins_all m f not_started = (mul_comm m.blocks m.connections, refl)
begins_all m f (yielded h) = (mul_comm m.blocks m.connections, refl)

pub bounded : Bounded
bounded =
    record {
      of_openings = λ s b cs. omega (arith, (begins_all s.limits s.failed b).0, (all_within s b cs).0);
      of_blocks = λ s b cs. omega (arith, (begins_all s.limits s.failed b).1, (all_within s b cs).1);
    }
  where
    all_within : (s : Sender) → Begins s.phase → (cs : List Call) → Within s (until_yield s cs)
    all_within s b cs = within cs s (begins_left s.limits s.failed b)
