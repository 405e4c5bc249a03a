-- No call changes the limits and the priority of a sender.
-- Assumes nothing.
use mathlib.Core.Path.{◌≡◌, refl}
use mathlib.Core.List.{List}
use Prim.Native.Nat.{ℕ, ◌+◌}
use lib.Dec.{ltb, eqb}
use Rattle.base.proofs.Choice.{pick_either}
use Rattle.link_frame.specs.ControlBytes.{STX, DLE}
use Rattle.link_receive.specs.Receive.{Reaction, receive_of}
use Rattle.events.specs.declared.Event.TheVariants as heard
use Rattle.link_receive.specs.declared.LinkState.{LinkState}
use Rattle.link_receive.specs.declared.Phase.{Phase}
use Rattle.link_receive.specs.declared.Phase.TheVariants.{Rest, Inside, Waiting}
use Rattle.link_send.specs.Send.{Turn, connection_fails, block_fails, collision, opening_byte, awaiting_byte, at_phase, after_half, fresh_of, opening_of, awaiting_of, receiving_of, in_phase, turn_of, Sending}
use Rattle.link_send.specs.declared.Priority.{Priority}
use Rattle.link_send.specs.declared.Priority.TheVariants.{Low, High}
use Rattle.link_send.specs.declared.SendEvent.{SendEvent}
use Rattle.link_send.specs.declared.SendEvent.TheVariants.{Start, Byte, Timer}
use Rattle.link_send.specs.declared.SendPhase.{SendPhase}
use Rattle.link_send.specs.declared.SendPhase.TheVariants.{Fresh, Opening, Awaiting, Receiving, Sent, GaveUp}
use Rattle.link_send.specs.declared.Sender.{Sender}
use Rattle.link_send_laws.specs.Runs.{Call, called_at}
use Rattle.link_send_laws.proofs.Calls.{Came, setup, long, short, turned, came}

pub record Same (s n : Sender) : Type 0 where
  pub limits : n.limits ≡ s.limits
  pub priority : n.priority ≡ s.priority

module _ (s : Sender) where
  abbrev Keeps : Turn → Type 0
  Keeps t = Same s t.next

  connection_same : Keeps (connection_fails s)
  unfolding connection_fails
  connection_same =
      pick_either Keeps (ltb (s.failed.connections + 1) s.limits.connections)
      (record { limits = refl; priority = refl })
      (record { limits = refl; priority = refl })

  block_same : Keeps (block_fails s)
  unfolding block_fails
  block_same =
      pick_either Keeps (ltb (s.failed.blocks + 1) s.limits.blocks)
      (record { limits = refl; priority = refl })
      (record { limits = refl; priority = refl })

  collision_same : (p : Priority) → Keeps (collision p s)
  collision_same Low = record { limits = refl; priority = refl }
  collision_same High = record { limits = refl; priority = refl }

  fresh_same : (e : SendEvent) → Keeps (fresh_of e s)
  unfolding fresh_of
  fresh_same Start = record { limits = refl; priority = refl }
  fresh_same (Byte b) = record { limits = refl; priority = refl }
  fresh_same Timer = record { limits = refl; priority = refl }

  opening_same : (e : SendEvent) → Keeps (opening_of e s)
  unfolding opening_of opening_byte
  opening_same Start = record { limits = refl; priority = refl }
  opening_same (Byte b) =
      pick_either Keeps (eqb b DLE)
      (record { limits = refl; priority = refl })
      (pick_either Keeps (eqb b STX) (collision_same s.priority) connection_same)
  opening_same Timer = connection_same

  awaiting_same : (e : SendEvent) → Keeps (awaiting_of e s)
  unfolding awaiting_of awaiting_byte
  awaiting_same Start = record { limits = refl; priority = refl }
  awaiting_same (Byte b) = pick_either Keeps (eqb b DLE) (record { limits = refl; priority = refl }) block_same
  awaiting_same Timer = block_same

  half_same : (p : Phase) (r : Reaction) → Keeps (at_phase p s r)
  half_same Rest r = record { limits = refl; priority = refl }
  half_same (Inside d) r = record { limits = refl; priority = refl }
  half_same Waiting r = record { limits = refl; priority = refl }

  receiving_same : (h : LinkState) (e : SendEvent) (buf : List ℕ) → Keeps (receiving_of e h s buf).turn
  unfolding receiving_of after_half
  receiving_same h Start buf = record { limits = refl; priority = refl }
  receiving_same h (Byte b) buf = half_same (receive_of h (heard.Byte b) buf).reaction.next.phase (receive_of h (heard.Byte b) buf).reaction
  receiving_same h Timer buf = half_same (receive_of h heard.Timer buf).reaction.next.phase (receive_of h heard.Timer buf).reaction

  phase_same : (p : SendPhase) (e : SendEvent) (buf : List ℕ) → Keeps (in_phase p e s buf).turn
  phase_same Fresh e buf = fresh_same e
  phase_same Opening e buf = opening_same e
  phase_same Awaiting e buf = awaiting_same e
  phase_same (Receiving h) e buf = receiving_same h e buf
  phase_same Sent e buf = record { limits = refl; priority = refl }
  phase_same GaveUp e buf = record { limits = refl; priority = refl }

  call_same : (c : Call) {r : Sending} → Came s c r → Same s r.outcome.reaction.next
  unfolding turn_of
  call_same c setup = record { limits = refl; priority = refl }
  call_same c long = record { limits = refl; priority = refl }
  call_same c (short less) = record { limits = refl; priority = refl }
  call_same c (turned ok room) = phase_same s.phase c.event c.buffer

pub limits_stay : (s : Sender) (c : Call) → Same s (called_at s c).outcome.reaction.next
limits_stay s c = call_same s c (came s c)
