-- A yield: the call beside the half's own step, and the phases of a sender of high priority.
-- Assumes nothing.
use mathlib.Core.Path.{◌≡◌, refl, ap, ◌∙◌, sym, subst}
use mathlib.Core.Bool.{Bool, true, false, false≢true}
use mathlib.Core.List.{List, [], ◌∷◌, append-nil}
use Prim.Native.Nat.{ℕ, ◌+◌}
use native.Mathlib.Omega.{arith}
use lib.Dec.{ltb, eqb}
use lib.ListN.{length}
use Rattle.base.proofs.Choice.{pick_either}
use Rattle.link_frame.specs.ControlBytes.{STX, DLE}
use Rattle.link_receive.specs.Receive as half
use Rattle.link_receive.specs.Receive.{Reaction, Outcome, at, against, byte_of, event_of, receive_of}
use Rattle.link_receive.specs.declared.Dle.TheVariants.{NotSeen}
use Rattle.events.specs.declared.Event.{Event}
use Rattle.events.specs.declared.Event.TheVariants as heard
use Rattle.link_receive.specs.declared.LinkState.{LinkState}
use Rattle.link_receive.specs.declared.Phase.{Phase}
use Rattle.link_receive.specs.declared.Phase.TheVariants.{Rest, Inside, Waiting}
use Rattle.link_receive.proofs.Bounds.{receive_agrees}
use Rattle.link_receive.proofs.Rows.{rest_stx}
use Rattle.link_receive.proofs.Effects.{is_rest, Effect, rests, goes_on, stores, event_effect}
use Rattle.link_send.specs.Send.{bytes_of, Turn, Taken, with, answer_parts, delivery_of, responding, half_against, attempts, into, connection_fails, block_fails, collision, opening_byte, awaiting_byte, at_phase, after_half, half_of, fresh_of, opening_of, awaiting_of, receiving_of, in_phase, turn_of, Sending}
use Rattle.link_send.proofs.Rows.{opening_stx}
use Rattle.link_send.specs.declared.Priority.{Priority}
use Rattle.link_send.specs.declared.Priority.TheVariants.{Low, High}
use Rattle.link_send.specs.declared.SendEvent.{SendEvent}
use Rattle.link_send.specs.declared.SendEvent.TheVariants.{Start, Byte, Timer}
use Rattle.link_send.specs.declared.SendPhase.{SendPhase}
use Rattle.link_send.specs.declared.SendPhase.TheVariants.{Fresh, Opening, Awaiting, Receiving, Sent, GaveUp}
use Rattle.link_send.specs.declared.Sender.{Sender}
use Rattle.link_send_laws.specs.Runs.{Call, called_at, is_refused, after_all, is_receiving}
use Rattle.link_send_laws.specs.Yields.{as_event, Began, Answers, AsByItself, HalfByItself, YieldBegins, HighNeverYields}
use Rattle.link_send_laws.proofs.Limits.{limits_stay}
use Rattle.link_send_laws.proofs.Calls as calls
use Rattle.link_send_laws.proofs.Calls.{Came, turned, came}

not_rest : (p : Phase) → (p ≡ Rest → ⊥) → is_rest p ≡ false
not_rest Rest h = absurd (h refl)
not_rest (Inside d) h = refl
not_rest Waiting h = refl

-- the turn of an event in a yield is what follows the half's step
yield_turn : (s : Sender) (h : LinkState) (e : Event) (buf : List ℕ) → s.phase ≡ Receiving h →
    turn_of s (as_event e) buf ≡ half_of s (receive_of h e buf)
unfolding turn_of receiving_of
yield_turn s h (heard.Byte b) buf i = ap (λ (p : SendPhase). in_phase p (Byte b) s buf) i
yield_turn s h heard.Timer buf i = ap (λ (p : SendPhase). in_phase p Timer s buf) i

module _ (s : Sender) (r : Reaction) where
  -- the half is not at rest after its step
  goes_on_parts : (p : Phase) → (p ≡ Rest → ⊥) → (at_phase p s r).parts ≡ answer_parts r.response
  goes_on_parts Rest away = absurd (away refl)
  goes_on_parts (Inside d) away = append-nil (answer_parts r.response)
  goes_on_parts Waiting away = append-nil (answer_parts r.response)

  goes_on_next : (p : Phase) → (p ≡ Rest → ⊥) → (at_phase p s r).next ≡ into s s.failed (Receiving r.next)
  goes_on_next Rest away = absurd (away refl)
  goes_on_next (Inside d) away = refl
  goes_on_next Waiting away = refl

  delivery_same : (p : Phase) (n : ℕ) → responding (at_phase p s r).delivery n ≡ responding (delivery_of r.response) n
  delivery_same Rest n = refl
  delivery_same (Inside d) n = refl
  delivery_same Waiting n = refl

-- a half that was not at rest answers in the event that brings it to rest
answered : {p : Phase} {n : ℕ} {buf : List ℕ} {o : Outcome} → Effect p n buf o → is_rest p ≡ false → o.reaction.next.phase ≡ Rest → Answers o
answered (rests half.nothing a) h i = absurd (false≢true (a h))
answered (rests (half.sends b) a) h i = record { byte = b; parts = refl }
answered (rests (half.delivers b n) a) h i = record { byte = b; parts = refl }
answered (rests (half.refuses k) a) h i = absurd (false≢true (a h))
answered (goes_on r q m c e) h i = absurd (false≢true (sym e ∙ ap is_rest i))
answered (stores b c) h i = absurd (false≢true (ap is_rest i))

-- a half that agrees with its buffer
agreeing : (h : LinkState) (e : Event) (buf : List ℕ) → against h.count buf ≡ false →
    Effect h.phase h.count buf (receive_of h e buf)
unfolding receive_of
agreeing h e buf good = rw good (event_effect e h buf)

module _ (s : Sender) (h : LinkState) (e : Event) (d buf out : List ℕ) (i : s.phase ≡ Receiving h) where
  abbrev o : Outcome
  o = receive_of h e buf

  abbrev c : Call
  c = record { event = as_event e; src = d; buffer = buf; output = out }

  abbrev to : Turn
  to = after_half s o.reaction

  -- the turn, by the half's step
  turn_is : (turn_of s (as_event e) buf).turn ≡ to
  turn_is = ap (λ (t : Taken). t.turn) (yield_turn s h e buf i)

  by_itself : {r : Sending} → Came s c r → is_refused r.outcome.reaction.response ≡ false → AsByItself h s d o r
  unfolding after_half
  by_itself calls.Came.setup done = absurd (false≢true (sym done))
  by_itself calls.Came.long done = absurd (false≢true (sym done))
  by_itself (calls.Came.short less) done = absurd (false≢true (sym done))
  by_itself (turned ok room) done =
      let good : against h.count buf ≡ false = subst (λ (p : SendPhase). half_against p buf ≡ false) i ok.half in
      record {
        buffer = ap (λ (t : Taken). t.buffer) (yield_turn s h e buf i);
        response =
            ap (λ (t : Turn). responding t.delivery (length (bytes_of d (turn_of s (as_event e) buf).turn.parts))) turn_is
            ∙ delivery_same s o.reaction o.reaction.next.phase _;
        goes_on =
            λ away.
            record {
              parts = ap (λ (t : Turn). t.parts) turn_is ∙ goes_on_parts s o.reaction o.reaction.next.phase away;
              next = ap (λ (t : Turn). t.next) turn_is ∙ goes_on_next s o.reaction o.reaction.next.phase away;
            };
        ends =
            λ rest.
            let t = turn_is ∙ ap (λ (p : Phase). at_phase p s o.reaction) rest in
            record { parts = ap (λ (x : Turn). x.parts) t; next = ap (λ (x : Turn). x.next) t };
        answers = λ away rest. answered (agreeing h e buf good) (not_rest h.phase away) rest;
      }

pub half_by_itself : HalfByItself
half_by_itself s h e d buf out i done = by_itself s h e d buf out i (came s (c s h e d buf out i)) done

-- the 02 at an opening sender of low priority
module _ (s : Sender) (d buf out : List ℕ) (h : s.phase ≡ Opening) (low : s.priority ≡ Low) where
  abbrev opened : Outcome
  opened = receive_of (at Rest 0 0) (heard.Byte STX) buf

  -- the half at rest answers DLE
  half_opens : opened ≡ half.with (half.to (half.sends DLE) (at (Inside NotSeen) 0 0)) buf
  unfolding event_of byte_of
  half_opens =
      receive_agrees (at Rest 0 0) (heard.Byte STX) buf (omega arith) (omega arith)
      ∙ ap (λ (r : Reaction). half.with r buf) (rest_stx STX refl)

  yields_to : turn_of s (Byte STX) buf ≡ with (collision Low s) buf
  unfolding turn_of opening_of
  yields_to =
      ap (λ (p : SendPhase). in_phase p (Byte STX) s buf) h
      ∙ ap (λ (t : Turn). with t buf) (opening_stx s STX refl ∙ ap (λ (p : Priority). collision p s) low)

  began : {r : Sending} → Came s (record { event = Byte STX; src = d; buffer = buf; output = out }) r →
      is_refused r.outcome.reaction.response ≡ false → Began s opened r
  began calls.Came.setup done = absurd (false≢true (sym done))
  began calls.Came.long done = absurd (false≢true (sym done))
  began (calls.Came.short less) done = absurd (false≢true (sym done))
  began (turned ok room) done =
      record {
        parts = ap (λ (t : Taken). t.turn.parts) yields_to ∙ sym (ap (λ (o : Outcome). answer_parts o.reaction.response) half_opens);
        next =
            ap (λ (t : Taken). t.turn.next) yields_to
            ∙ sym (ap (λ (o : Outcome). into s (attempts 0 0) (Receiving o.reaction.next)) half_opens);
        buffer = ap (λ (t : Taken). t.buffer) yields_to ∙ sym (ap (λ (o : Outcome). o.buffer) half_opens);
      }

pub yield_begins : YieldBegins
yield_begins s d buf out h low done = began s d buf out h low (came s (record { event = Byte STX; src = d; buffer = buf; output = out })) done

abbrev is_high : Priority → Bool
is_high Low = false
is_high High = true

-- a sender of high priority does not come to receive
module _ (s : Sender) (high : s.priority ≡ High) where
  abbrev Apart : Turn → Type 0
  Apart t = is_receiving t.next.phase ≡ false

  connection_apart : Apart (connection_fails s)
  unfolding connection_fails
  connection_apart = pick_either Apart (ltb (s.failed.connections + 1) s.limits.connections) refl refl

  block_apart : Apart (block_fails s)
  unfolding block_fails
  block_apart = pick_either Apart (ltb (s.failed.blocks + 1) s.limits.blocks) refl refl

  collision_apart : (p : Priority) → s.priority ≡ p → is_receiving s.phase ≡ false → Apart (collision p s)
  collision_apart Low e away = absurd (false≢true (ap is_high (sym e ∙ high)))
  collision_apart High e away = away

  fresh_apart : (e : SendEvent) → is_receiving s.phase ≡ false → Apart (fresh_of e s)
  unfolding fresh_of
  fresh_apart Start away = refl
  fresh_apart (Byte b) away = away
  fresh_apart Timer away = away

  opening_apart : (e : SendEvent) → is_receiving s.phase ≡ false → Apart (opening_of e s)
  unfolding opening_of opening_byte
  opening_apart Start away = away
  opening_apart (Byte b) away =
      pick_either Apart (eqb b DLE) refl (pick_either Apart (eqb b STX) (collision_apart s.priority refl away) connection_apart)
  opening_apart Timer away = connection_apart

  awaiting_apart : (e : SendEvent) → is_receiving s.phase ≡ false → Apart (awaiting_of e s)
  unfolding awaiting_of awaiting_byte
  awaiting_apart Start away = away
  awaiting_apart (Byte b) away = pick_either Apart (eqb b DLE) refl block_apart
  awaiting_apart Timer away = block_apart

  phase_apart : (p : SendPhase) (e : SendEvent) (buf : List ℕ) → s.phase ≡ p → is_receiving p ≡ false → Apart (in_phase p e s buf).turn
  phase_apart Fresh e buf h away = fresh_apart e (ap is_receiving h)
  phase_apart Opening e buf h away = opening_apart e (ap is_receiving h)
  phase_apart Awaiting e buf h away = awaiting_apart e (ap is_receiving h)
  phase_apart (Receiving l) e buf h away = absurd (false≢true (sym away))
  phase_apart Sent e buf h away = ap is_receiving h
  phase_apart GaveUp e buf h away = ap is_receiving h

  call_apart : (c : Call) → is_receiving s.phase ≡ false → {r : Sending} → Came s c r → is_receiving r.outcome.reaction.next.phase ≡ false
  unfolding turn_of
  call_apart c away calls.Came.setup = away
  call_apart c away calls.Came.long = away
  call_apart c away (calls.Came.short less) = away
  call_apart c away (turned ok room) = phase_apart s.phase c.event c.buffer refl away

all_apart : (cs : List Call) (s : Sender) → s.priority ≡ High → is_receiving s.phase ≡ false → is_receiving (after_all s cs).phase ≡ false
unfolding after_all
all_apart [] s high away = away
all_apart (c ∷ cs) s high away =
    all_apart cs (called_at s c).outcome.reaction.next ((limits_stay s c).priority ∙ high) (call_apart s high c away (came s c))

pub high_never_yields : HighNeverYields
high_never_yields s cs high away = all_apart cs s high away
