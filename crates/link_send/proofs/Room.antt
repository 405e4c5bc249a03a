-- The turn with room in the output and without: what is left where it is done, and where it is refused.
-- Assumes nothing.
use mathlib.Core.Path.{◌≡◌, refl, ap, subst, sym, ◌∙◌}
use mathlib.Core.Bool.{true, false}
use mathlib.Core.List.{List}
use Prim.Native.Nat.{ℕ, ◌≤◌, ◌<◌}
use native.Mathlib.Omega.{arith}
use borrow.Author.Tests.{ltb-true, le-ltb, lt-ltb}
use lib.Dec.{ltb}
use lib.ListN.{length}
use Rattle.base.specs.Filling.{Filling, fitted}
use Rattle.base.proofs.Choice.{pick_by}
use Rattle.link_frame.specs.Frame.{max_data}
use Rattle.link_receive.specs.Receive.{Outcome, receive_of, against}
use Rattle.events.specs.declared.Event.{Event}
use Rattle.events.specs.declared.Event.TheVariants as heard
use Rattle.link_receive.specs.declared.LinkState.{LinkState}
use Rattle.link_receive.specs.declared.Phase.{Phase}
use Rattle.link_receive.proofs.Effects.{Effect, rests, goes_on, stores, event_effect}
use Rattle.link_send.specs.Send.{bytes_of, Taken, SendReaction, leaving, refusing, after_half, half_of, receiving_of, turn_of, in_phase, half_against, misset, outgoing, send_of}
use Rattle.link_send.specs.Private.Plans.{finished}
use Rattle.link_send.specs.declared.SendEvent.{SendEvent}
use Rattle.link_send.specs.declared.SendEvent.TheVariants.{Start, Byte, Timer}
use Rattle.link_send.specs.declared.SendPhase.{SendPhase}
use Rattle.link_send.specs.declared.SendPhase.TheVariants.{Fresh, Opening, Awaiting, Receiving, Sent, GaveUp}
use Rattle.link_send.specs.declared.Sender.{Sender}

module _ (d buf out : List ℕ) (s : Sender) where
  -- without room for what is sent, the buffer is as it was
  abbrev Keeps : Taken → Type 0
  Keeps t = length out < length (bytes_of d t.turn.parts) → t.buffer ≡ buf

  half_keeps : {p : Phase} {n : ℕ} {o : Outcome} → Effect p n buf o → Keeps (half_of s o)
  unfolding after_half bytes_of
  half_keeps (rests r a) short = refl
  half_keeps (goes_on r q m c e) short = refl
  half_keeps (stores b c) short = absurd (omega arith)

  heard_keeps : (h : LinkState) (e : Event) → against h.count buf ≡ false → Keeps (half_of s (receive_of h e buf))
  unfolding receive_of
  heard_keeps h e agrees = rw agrees (half_keeps (event_effect e h buf))

  receiving_keeps : (h : LinkState) (e : SendEvent) → against h.count buf ≡ false → Keeps (receiving_of e h s buf)
  unfolding receiving_of
  receiving_keeps h Start agrees = λ short. refl
  receiving_keeps h (Byte b) agrees = heard_keeps h (heard.Byte b) agrees
  receiving_keeps h Timer agrees = heard_keeps h heard.Timer agrees

  phase_keeps : (p : SendPhase) (e : SendEvent) → half_against p buf ≡ false → Keeps (in_phase p e s buf)
  phase_keeps Fresh e agrees = λ short. refl
  phase_keeps Opening e agrees = λ short. refl
  phase_keeps Awaiting e agrees = λ short. refl
  phase_keeps (Receiving h) e agrees = receiving_keeps h e agrees
  phase_keeps Sent e agrees = λ short. refl
  phase_keeps GaveUp e agrees = λ short. refl

  -- the output is filled, or refused, and the turn is done, or nothing
  turn_done : (t : Taken) (bytes : List ℕ) → (length out < length bytes → t.buffer ≡ buf) → {f : Filling} {r : SendReaction} →
      f ≡ fitted bytes out → r ≡ finished f.given t.turn s →
      leaving r t.buffer f.output ≡ (outgoing (fitted bytes out) t s buf).outcome
  unfolding fitted
  turn_done t bytes keeps {f} {r} filled told =
      ap (λ (q : SendReaction). leaving q t.buffer f.output) told
      ∙ ap (λ (g : Filling). leaving (finished g.given t.turn s) t.buffer g.output) filled
      ∙ pick_by (λ (g : Filling). leaving (finished g.given t.turn s) t.buffer g.output ≡ (outgoing g t s buf).outcome)
      (ltb (length out) (length bytes))
      (λ short. ap (λ (l : List ℕ). leaving (refusing 11 s) l out) (keeps (ltb-true _ _ short)))
      (λ room. refl)

module _ (s : Sender) (e : SendEvent) (d buf out : List ℕ) where
  pub send_misset : misset s buf ≡ true → {r : SendReaction} → r ≡ refusing 1 s → leaving r buf out ≡ (send_of s e d buf out).outcome
  unfolding send_of
  send_misset bad told = rw (told, bad)

  pub send_long : misset s buf ≡ false → max_data < length d → {r : SendReaction} → r ≡ refusing 12 s →
      leaving r buf out ≡ (send_of s e d buf out).outcome
  unfolding send_of
  send_long good long told = rw (told, good, lt-ltb _ _ long)

  pub send_turn : misset s buf ≡ false → half_against s.phase buf ≡ false → length d ≤ max_data → {t : Taken} {f : Filling} {r : SendReaction} →
      t ≡ turn_of s e buf → f ≡ fitted (bytes_of d t.turn.parts) out → r ≡ finished f.given t.turn s →
      leaving r t.buffer f.output ≡ (send_of s e d buf out).outcome
  unfolding send_of turn_of
  send_turn good agrees short same filled told =
      rw (good, le-ltb _ _ short, ← same)
      (turn_done d buf out s _ _ (subst (Keeps d buf out s) (sym same) (phase_keeps d buf out s s.phase e agrees)) filled told)
