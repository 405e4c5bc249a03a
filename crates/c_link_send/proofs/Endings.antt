-- What an event at the sender comes to: so many bytes to send, these with a message, or a refusal that leaves all as it was.
-- Assumes nothing.
use mathlib.Core.Path.{◌≡◌, refl, ap}
use mathlib.Core.List.{List, [], ◌∷◌, append-nil}
use Prim.Native.Nat.{ℕ, ◌+◌, ◌≤◌, ◌<◌}
use native.Mathlib.Omega.{arith}
use borrow.Author.Tests.{ltb-false}
use lib.Dec.{eqb, ltb}
use lib.ListN.{length}
use Rattle.base.specs.Filling.{Filling, fitted}
use Rattle.base.proofs.Choice.{pick_either, pick_by}
use Rattle.link_frame.specs.ControlBytes.{STX, DLE}
use Rattle.link_frame.specs.Frame.{frame_of, max_data}
use Rattle.link_frame.proofs.Doubling.{doubled_bound}
use Rattle.link_frame.proofs.Framing.{length_frame}
use Rattle.link_receive.specs.Receive as half
use Rattle.link_receive.specs.Receive.{Response, Reaction, receive_of}
use Rattle.events.specs.declared.Event.{Event}
use Rattle.events.specs.declared.Event.TheVariants as heard
use Rattle.link_receive.specs.declared.LinkState.{LinkState}
use Rattle.link_receive.specs.declared.Phase.{Phase}
use Rattle.link_receive.specs.declared.Phase.TheVariants.{Rest, Inside, Waiting}
use Rattle.link_send.specs.Send.{Part, opening, block, part_bytes, bytes_of, Turn, Taken, sending, connection_fails, block_fails, collision, opening_byte, awaiting_byte, relaying, at_phase, after_half, fresh_of, opening_of, awaiting_of, receiving_of, in_phase, turn_of, misset, SendResponse, sends, delivers, refuses, SendReaction, SendOutcome, leaving, Sending, refusing, responding, outgoing, send_of}
use Rattle.link_send.specs.declared.Priority.{Priority}
use Rattle.link_send.specs.declared.Priority.TheVariants.{Low, High}
use Rattle.link_send.specs.declared.SendPhase.{SendPhase}
use Rattle.link_send.specs.declared.SendPhase.TheVariants.{Fresh, Opening, Awaiting, Receiving, Sent, GaveUp}
use Rattle.link_send.specs.declared.Sender.{Sender}
use Rattle.link_send.specs.declared.SendEvent.{SendEvent}
use Rattle.link_send.specs.declared.SendEvent.TheVariants.{Start, Byte, Timer}
use Rattle.c_answer.specs.Answer.{kinds, refused}
use Rattle.c_link.specs.Bounds.{max_frame}
use Rattle.c_link.proofs.Bounds.{link_bounds}
use Rattle.c_link_send.specs.Send.{of_response}
use Rattle.c_link_send.specs.Private.Small.{SmallResponse}

-- of an answer that is no refusal: no more is sent than the longest frame, and a message is no longer than a block holds
abbrev pub Told : SendResponse → Type 0
Told (sends n) = n ≤ max_frame
Told (delivers n count) = (n ≤ max_frame) × (count ≤ max_data)
Told (refuses k) = ⊥

-- of a turn, where d is the data: what goes out, and the answer with it
abbrev Small : List ℕ → Turn → Type 0
Small d t = (length (bytes_of d t.parts) ≤ max_frame) × ((n : ℕ) → n ≤ max_frame → Told (responding t.delivery n))

module _ (d : List ℕ) where
  nothing_small : (s : Sender) → Small d (sending [] s)
  unfolding bytes_of
  nothing_small s = (omega arith, λ n h. h)

  opening_small : (s : Sender) → Small d (sending (opening ∷ []) s)
  unfolding bytes_of part_bytes
  opening_small s = (omega arith, λ n h. h)

  block_small : (s : Sender) → length d ≤ max_data → Small d (sending (block ∷ []) s)
  unfolding bytes_of part_bytes
  block_small s most = (rw (append-nil (frame_of d)) (omega (arith, length_frame d, doubled_bound d)), λ n h. h)

  connection_small : (s : Sender) → Small d (connection_fails s)
  unfolding connection_fails
  connection_small s = pick_either (Small d) (ltb (s.failed.connections + 1) s.limits.connections) (opening_small s) (nothing_small s)

  fails_small : (s : Sender) → Small d (block_fails s)
  unfolding block_fails
  fails_small s = pick_either (Small d) (ltb (s.failed.blocks + 1) s.limits.blocks) (opening_small s) (nothing_small s)

  collision_small : (p : Priority) (s : Sender) → Small d (collision p s)
  unfolding bytes_of part_bytes
  collision_small Low s = (omega arith, λ n h. h)
  collision_small High s = nothing_small s

  -- of the half's answer, with at most one byte behind it
  relaying_small : (r : Response) (more : List Part) (s : Sender) → length (bytes_of d more) ≤ 1 →
      ((b n : ℕ) → r ≡ half.delivers b n → n ≤ max_data) → Small d (relaying r more s)
  unfolding bytes_of part_bytes
  relaying_small half.nothing more s few count = (omega arith, λ n h. h)
  relaying_small (half.sends b) more s few count = (omega arith, λ n h. h)
  relaying_small (half.delivers b n) more s few count = (omega arith, λ m h. (h, count b n refl))
  relaying_small (half.refuses k) more s few count = (omega arith, λ n h. h)

  after_small : (p : Phase) (s : Sender) (r : Reaction) → ((b n : ℕ) → r.response ≡ half.delivers b n → n ≤ max_data) → Small d (at_phase p s r)
  unfolding bytes_of part_bytes
  after_small Rest s r count = relaying_small r.response (opening ∷ []) s (omega arith) count
  after_small (Inside e) s r count = relaying_small r.response [] s (omega arith) count
  after_small Waiting s r count = relaying_small r.response [] s (omega arith) count

  heard_small : (s : Sender) (h : LinkState) (e : Event) (buf : List ℕ) → Small d (after_half s (receive_of h e buf).reaction)
  unfolding after_half
  heard_small s h e buf =
      let r = (receive_of h e buf).reaction in after_small r.next.phase s r (link_bounds.message h e buf)

  module _ (most : length d ≤ max_data) (s : Sender) (buf : List ℕ) where
    fresh_small : (e : SendEvent) → Small d (fresh_of e s)
    unfolding fresh_of
    fresh_small Start = opening_small s
    fresh_small (Byte b) = nothing_small s
    fresh_small Timer = nothing_small s

    waiting_small : (e : SendEvent) → Small d (opening_of e s)
    unfolding opening_of opening_byte
    waiting_small Start = nothing_small s
    waiting_small (Byte b) =
        pick_either (Small d) (eqb b DLE) (block_small s most)
        (pick_either (Small d) (eqb b STX) (collision_small s.priority s) (connection_small s))
    waiting_small Timer = connection_small s

    awaiting_small : (e : SendEvent) → Small d (awaiting_of e s)
    unfolding awaiting_of awaiting_byte
    awaiting_small Start = nothing_small s
    awaiting_small (Byte b) = pick_either (Small d) (eqb b DLE) (nothing_small s) (fails_small s)
    awaiting_small Timer = fails_small s

    receiving_small : (h : LinkState) (e : SendEvent) → Small d (receiving_of e h s buf).turn
    unfolding receiving_of
    receiving_small h Start = nothing_small s
    receiving_small h (Byte b) = heard_small s h (heard.Byte b) buf
    receiving_small h Timer = heard_small s h heard.Timer buf

    phase_small : (p : SendPhase) (e : SendEvent) → Small d (in_phase p e s buf).turn
    phase_small Fresh e = fresh_small e
    phase_small Opening e = waiting_small e
    phase_small Awaiting e = awaiting_small e
    phase_small (Receiving h) e = receiving_small h e
    phase_small Sent e = nothing_small s
    phase_small GaveUp e = nothing_small s

    turn_small : (e : SendEvent) → Small d (turn_of s e buf).turn
    unfolding turn_of
    turn_small e = phase_small s.phase e

-- an answer, or a refusal that leaves all as it was
pub data Ending (s : Sender) (buf out : List ℕ) : SendOutcome → Type 0 where
  told : (r : SendReaction) (b o : List ℕ) → Told r.response → Ending s buf out (leaving r b o)
  denied : (k : ℕ) → Ending s buf out (leaving (refusing k s) buf out)

module _ (s : Sender) (buf out : List ℕ) where
  abbrev Ends : Sending → Type 0
  Ends x = Ending s buf out x.outcome

  turn_ends : (d : List ℕ) (t : Taken) → Small d t.turn → Ends (outgoing (fitted (bytes_of d t.turn.parts) out) t s buf)
  unfolding fitted
  turn_ends d t small =
      pick_either (λ (f : Filling). Ends (outgoing f t s buf)) (ltb (length out) (length (bytes_of d t.turn.parts)))
      (denied 11)
      (told _ _ _ (small.1 _ small.0))

  pub send_ends : (e : SendEvent) (d : List ℕ) → Ending s buf out (send_of s e d buf out).outcome
  unfolding send_of
  send_ends e d =
      pick_either Ends (misset s buf) (denied 1)
      (pick_by Ends (ltb max_data (length d)) (λ long. denied 12)
      (λ short. turn_ends d (turn_of s e buf) (turn_small d (ltb-false max_data (length d) short) s buf e)))

-- so the number of an answer fits
told_small : (r : SendResponse) → Told r → SmallResponse r
told_small (sends n) h = h
told_small (delivers n count) h = h
told_small (refuses k) h = tt

ending_small : {s : Sender} {buf out : List ℕ} {o : SendOutcome} → Ending s buf out o → SmallResponse o.reaction.response
ending_small (told r b o h) = told_small r.response h
ending_small (denied k) = tt

pub send_small : (s : Sender) (e : SendEvent) (d buf out : List ℕ) → SmallResponse (send_of s e d buf out).outcome.reaction.response
send_small s e d buf out = ending_small (send_ends s buf out e d)

-- a value is told from a refusal
pub value_bound : (n count : ℕ) → n ≤ max_frame → count ≤ max_data → of_response (delivers n count) < kinds
value_bound n count h m = omega arith

told_done : (r : SendResponse) (k : ℕ) → Told r → 1 ≤ k → of_response r ≡ refused k → ⊥
told_done (sends n) k h some e = omega arith
told_done (delivers n count) k h some e = omega (arith, h.0, h.1)
told_done (refuses j) k h some e = h

same_refusal : (j k : ℕ) → refused j ≡ refused k → j ≡ k
same_refusal j k e = omega arith

pub ending_kept : {s : Sender} {buf out : List ℕ} {o : SendOutcome} (k : ℕ) → Ending s buf out o → 1 ≤ k →
    of_response o.reaction.response ≡ refused k → o ≡ leaving (refusing k s) buf out
ending_kept k (told r b o h) some e = absurd (told_done r.response k h some e)
ending_kept {s} {buf} {out} k (denied j) some e = ap (λ (n : ℕ). leaving (refusing n s) buf out) (same_refusal j k e)
