-- How a sending ends: by the calls that fail an attempt, one after the other.
-- Assumes nothing.
use mathlib.Core.Path.{◌≡◌, refl, ap, ◌∙◌, sym, subst}
use mathlib.Core.Bool.{Bool, true, false, false≢true}
use mathlib.Core.List.{List, []}
use Prim.Native.Nat.{ℕ, zero, suc, ◌+◌, ◌<◌}
use native.Mathlib.Omega.{arith}
use lib.ListN.{length}
use Rattle.base.specs.Places.{placed}
use Rattle.link_frame.specs.ControlBytes.{DLE}
use Rattle.link_send.specs.Send.{bytes_of, Turn, Taken, with, sending, attempts, into, connection_fails, block_fails, opening_of, awaiting_of, turn_of, in_phase, Sending, responding}
use Rattle.link_send.specs.declared.Attempts.{Attempts}
use Rattle.link_send.specs.declared.SendEvent.{SendEvent}
use Rattle.link_send.specs.declared.SendPhase.{SendPhase}
use Rattle.link_send.specs.declared.SendPhase.TheVariants.{Fresh, Opening, Awaiting, Receiving, Sent, GaveUp}
use Rattle.link_send.specs.declared.Sender.{Sender}
use Rattle.link_send.proofs.Rows.{connection_again, connection_last, block_again, block_last, opening_other, awaiting_dle, awaiting_other}
use Rattle.link_send_laws.specs.Runs.{Call, after_all}
use Rattle.link_send_laws.specs.Endings as spec
use Rattle.link_send_laws.specs.Endings.{FailsConnection, FailsBlock, FailedConnections, FailedBlocks, Waits, Quiet, nothing, setup, long, Unmoved, Over, sent, gave_up, Endings}
use Rattle.link_send_laws.proofs.Calls as calls
use Rattle.link_send_laws.proofs.Calls.{Came, turned, came, turn_next}
use Rattle.link_send_laws.proofs.Limits.{limits_stay}

opening_fails : (s : Sender) {e : SendEvent} → FailsConnection e → opening_of e s ≡ connection_fails s
unfolding opening_of
opening_fails s spec.FailsConnection.timer = refl
opening_fails s (spec.FailsConnection.byte b d t) = opening_other s b d t

awaiting_fails : (s : Sender) {e : SendEvent} → FailsBlock e → awaiting_of e s ≡ block_fails s
unfolding awaiting_of
awaiting_fails s spec.FailsBlock.timer = refl
awaiting_fails s (spec.FailsBlock.byte b d) = awaiting_other s b d

abbrev after : Sender → Call → Sender
after s c = spec.after s c

-- one failed attempt, of either kind
connection_next : (s : Sender) (c : Call) → s.phase ≡ Opening → FailsConnection c.event → spec.NotRefused s c →
    after s c ≡ (connection_fails s).next
connection_next s c h x done = turn_next s c (came s c) done h ∙ ap (λ (t : Turn). t.next) (opening_fails s x)

block_next : (s : Sender) (c : Call) → s.phase ≡ Awaiting → FailsBlock c.event → spec.NotRefused s c → after s c ≡ (block_fails s).next
block_next s c h x done = turn_next s c (came s c) done h ∙ ap (λ (t : Turn). t.next) (awaiting_fails s x)

-- no more fail
connections_stay : {n : ℕ} {s : Sender} {cs : List Call} → FailedConnections n s cs → n ≡ 0 → after_all s cs ≡ s
unfolding after_all
connections_stay spec.FailedConnections.none z = refl
connections_stay (spec.FailedConnections.stays {cs = cs} e f) z = ap (λ (m : Sender). after_all m cs) e ∙ connections_stay f z
connections_stay (spec.FailedConnections.fails x r f) z = absurd (omega arith)

-- from k failed connections on, with n to come
module _ (o : Sender) where
  all_fail : {n : ℕ} {s : Sender} {cs : List Call} → FailedConnections n s cs → (k b : ℕ) → s ≡ into o (attempts k b) Opening →
      k + n ≡ o.limits.connections → 0 < n → after_all s cs ≡ into o (attempts o.limits.connections b) GaveUp
  unfolding after_all
  all_fail spec.FailedConnections.none k b h all some = absurd (omega arith)
  all_fail (spec.FailedConnections.stays {cs = cs} e f) k b h all some = ap (λ (m : Sender). after_all m cs) e ∙ all_fail f k b h all some
  all_fail (spec.FailedConnections.fails {n} {s} {c} {cs} x r f) k b h all some =
      let step : after s c ≡ (connection_fails (into o (attempts k b) Opening)).next =
      connection_next s c (ap (λ (m : Sender). m.phase) h) x r ∙ ap (λ (m : Sender). (connection_fails m).next) h in
      split n step all (λ z. connections_stay f z) (λ a i j. all_fail f (k + 1) b a i j)
    where
      split : (n : ℕ) → after s c ≡ (connection_fails (into o (attempts k b) Opening)).next → k + (n + 1) ≡ o.limits.connections →
          (n ≡ 0 → after_all (after s c) cs ≡ after s c) →
          (after s c ≡ into o (attempts (k + 1) b) Opening → k + 1 + n ≡ o.limits.connections → 0 < n →
          after_all (after s c) cs ≡ into o (attempts o.limits.connections b) GaveUp) →
          after_all (after s c) cs ≡ into o (attempts o.limits.connections b) GaveUp
      split zero step sum stay more =
          stay refl ∙ step ∙ ap (λ (t : Turn). t.next) (connection_last (into o (attempts k b) Opening) (omega arith))
      split (suc m) step sum stay more =
          more (step ∙ ap (λ (t : Turn). t.next) (connection_again (into o (attempts k b) Opening) (omega arith))) (omega arith) (omega arith)

-- nothing happens after the end
over_turn : (s : Sender) (e : SendEvent) (buf : List ℕ) {p : SendPhase} → Over p → s.phase ≡ p → turn_of s e buf ≡ with (sending [] s) buf
unfolding turn_of
over_turn s e buf sent h = ap (λ (p : SendPhase). in_phase p e s buf) h
over_turn s e buf gave_up h = ap (λ (p : SendPhase). in_phase p e s buf) h

unmoved : (s : Sender) (c : Call) {r : Sending} → turn_of s c.event c.buffer ≡ with (sending [] s) c.buffer → Came s c r → Unmoved s c r
unfolding bytes_of placed
unmoved s c e calls.Came.setup = record { response = setup; parts = refl; state = refl; buffer = refl; output = refl }
unmoved s c e calls.Came.long = record { response = long; parts = refl; state = refl; buffer = refl; output = refl }
unmoved s c e (calls.Came.short less) =
    absurd (omega (arith, less, ap (λ (t : Taken). length (bytes_of c.src t.turn.parts)) e))
unmoved s c e (turned ok room) =
    record {
      response =
          subst (λ (t : Taken). Quiet (responding t.turn.delivery (length (bytes_of c.src t.turn.parts)))) (sym e) nothing;
      parts = ap (λ (t : Taken). t.turn.parts) e;
      state = ap (λ (t : Taken). t.turn.next) e;
      buffer = ap (λ (t : Taken). t.buffer) e;
      output = ap (λ (t : Taken). placed (bytes_of c.src t.turn.parts) c.output) e;
    }

-- what becomes of the sender whose blocks have failed
abbrev GaveUpAt : ℕ → Sender → Type 0
GaveUpAt limit s = (s.phase ≡ GaveUp) × (s.failed.blocks ≡ limit)

abbrev is_gave_up : SendPhase → Bool
is_gave_up Fresh = false
is_gave_up Opening = false
is_gave_up Awaiting = false
is_gave_up (Receiving h) = false
is_gave_up Sent = false
is_gave_up GaveUp = true

not_waiting : {p : SendPhase} → Waits p → p ≡ GaveUp → ⊥
not_waiting spec.Waits.opening e = false≢true (ap is_gave_up e)
not_waiting spec.Waits.awaiting e = false≢true (ap is_gave_up e)

waits_awaiting : {p : SendPhase} → p ≡ Awaiting → Waits p
waits_awaiting e = subst Waits (sym e) spec.Waits.awaiting

waits_opening : {p : SendPhase} → p ≡ Opening → Waits p
waits_opening e = subst Waits (sym e) spec.Waits.opening

over_stays : (s : Sender) (c : Call) → s.phase ≡ GaveUp → after s c ≡ s
over_stays s c h = (unmoved s c (over_turn s c.event c.buffer gave_up h) (came s c)).state

-- a sender that has given up stays so
given_up : {n : ℕ} {s : Sender} {cs : List Call} → FailedBlocks n s cs → (limit : ℕ) → GaveUpAt limit s → GaveUpAt limit (after_all s cs)
unfolding after_all
given_up spec.FailedBlocks.none limit g = g
given_up (spec.FailedBlocks.stays {s = s} {c = c} {cs = cs} e f) limit g =
    subst (λ (m : Sender). GaveUpAt limit (after_all m cs)) (sym e) (given_up f limit g)
given_up (spec.FailedBlocks.waits {s = s} {c = c} w e f) limit g =
    absurd (not_waiting w (ap (λ (m : Sender). m.phase) (over_stays s c g.0) ∙ g.0))
given_up (spec.FailedBlocks.fails h x r f) limit g = absurd (not_waiting (waits_awaiting h) g.0)

-- from k failed blocks on, with n to come
blocks_fall : {n : ℕ} {s : Sender} {cs : List Call} → FailedBlocks n s cs → Waits s.phase → (k : ℕ) → s.failed.blocks ≡ k →
    k + n ≡ s.limits.blocks → 0 < n → GaveUpAt s.limits.blocks (after_all s cs)
unfolding after_all
blocks_fall spec.FailedBlocks.none w k e all some = absurd (omega arith)
blocks_fall (spec.FailedBlocks.stays {s = s} {c = c} {cs = cs} same f) w k e all some =
    subst (λ (m : Sender). GaveUpAt s.limits.blocks (after_all m cs)) (sym same) (blocks_fall f w k e all some)
blocks_fall (spec.FailedBlocks.waits {s = s} {c = c} {cs = cs} v same f) w k e all some =
    let l = ap (λ (a : Attempts). a.blocks) (limits_stay s c).limits in
    subst (λ (limit : ℕ). GaveUpAt limit (after_all (after s c) cs)) l (blocks_fall f v k (same ∙ e) (all ∙ sym l) some)
blocks_fall (spec.FailedBlocks.fails {n} {s} {c} {cs} h x r f) w k e all some =
    split n (block_next s c h x r) all (λ g. given_up f s.limits.blocks g)
    (λ v i j some_left.
    let l = ap (λ (a : Attempts). a.blocks) (limits_stay s c).limits in
    subst (λ (limit : ℕ). GaveUpAt limit (after_all (after s c) cs)) l (blocks_fall f v (k + 1) i (j ∙ sym l) some_left))
  where
    split : (n : ℕ) → after s c ≡ (block_fails s).next → k + (n + 1) ≡ s.limits.blocks →
        (GaveUpAt s.limits.blocks (after s c) → GaveUpAt s.limits.blocks (after_all (after s c) cs)) →
        (Waits (after s c).phase → (after s c).failed.blocks ≡ k + 1 → k + 1 + n ≡ s.limits.blocks → 0 < n →
        GaveUpAt s.limits.blocks (after_all (after s c) cs)) →
        GaveUpAt s.limits.blocks (after_all (after s c) cs)
    split zero step sum end more =
        let t = block_last s (omega (arith, e, sum)) in
        end
        (subst (GaveUpAt s.limits.blocks) (sym (step ∙ ap (λ (u : Turn). u.next) t)) (refl, refl))
    split (suc m) step sum end more =
        let t = step ∙ ap (λ (u : Turn). u.next) (block_again s (omega (arith, e, sum))) in
        more
        (waits_opening (ap (λ (n : Sender). n.phase) t))
        (ap (λ (n : Sender). n.failed.blocks) t ∙ ap (λ (b : ℕ). b + 1) e)
        (omega arith)
        (omega arith)

pub endings : Endings
unfolding awaiting_of
endings =
    record {
      connections_fail =
          λ s cs some h z f.
          all_fail s f 0 s.failed.blocks
          (ap (into s s.failed) h ∙ ap (λ (k : ℕ). into s (attempts k s.failed.blocks) Opening) z)
          (omega arith)
          some;
      blocks_fail = λ s cs some w z f. blocks_fall f w 0 z (omega arith) some;
      block_answered =
          λ s c h e done.
          turn_next s c (came s c) done h
          ∙ ap (λ (x : SendEvent). (awaiting_of x s).next) e
          ∙ ap (λ (t : Turn). t.next) (awaiting_dle s DLE refl);
      over = λ s c o. unmoved s c (over_turn s c.event c.buffer o refl) (came s c);
    }
