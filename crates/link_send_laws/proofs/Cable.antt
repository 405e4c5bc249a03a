-- End to end: the opening, the block, and the two answers, each fed to the other end byte by byte.
-- Assumes nothing.
use mathlib.Core.Path.{◌≡◌, refl, ap, ◌∙◌, sym, subst}
use mathlib.Core.List.{List, [], ◌∷◌, ◌++◌, append-nil, append_assoc}
use Prim.Native.Nat.{ℕ, zero, suc, ◌-◌, ◌≤◌}
use native.Mathlib.Omega.{arith}
use lib.ListN.{length, drop, replicate}
use Rattle.base.specs.Places.{placed}
use Rattle.base.proofs.Places.{length_placed, take_placed}
use Rattle.link_frame.specs.ControlBytes.{STX, DLE}
use Rattle.link_frame.specs.Frame.{frame_of, max_data}
use Rattle.link_frame.proofs.Framing.{length_frame}
use Rattle.link_receive.specs.Receive as half
use Rattle.link_receive.specs.Receive.{Response, nothing, delivers, at, receive_of}
use Rattle.link_receive.specs.declared.Dle.TheVariants.{NotSeen}
use Rattle.events.specs.declared.Event.TheVariants as heard
use Rattle.link_receive.specs.declared.LinkState.{LinkState}
use Rattle.link_receive.specs.declared.Phase.TheVariants.{Rest, Inside}
use Rattle.link_laws.specs.Feeding.{Fed, after, feed}
use Rattle.link_laws.specs.RoundTrip.{frame_answers}
use Rattle.link_laws.proofs.Feeding.{fed_none, fed_stx}
use Rattle.link_laws.proofs.RoundTrip.{round_trip}
use Rattle.link_send.specs.Send.{opening, block, part_bytes, bytes_of, Turn, sending, attempts, into, fresh_of, opening_of, awaiting_of, Sending, sends, send_of}
use Rattle.link_send.specs.declared.SendEvent.{SendEvent}
use Rattle.link_send.specs.declared.SendEvent.TheVariants.{Start, Byte}
use Rattle.link_send.specs.declared.SendPhase.{SendPhase}
use Rattle.link_send.specs.declared.SendPhase.TheVariants.{Fresh, Opening, Awaiting, Sent}
use Rattle.link_send.specs.declared.Sender.{Sender}
use Rattle.link_send.proofs.Rows.{opening_dle, awaiting_dle}
use Rattle.link_send_laws.specs.Runs.{Call}
use Rattle.link_send_laws.specs.Cable.{Usable, Cable, answer_bytes, sender_done, Reaches, here, later, after_start, started, Arrives, EndToEnd}
use Rattle.link_send_laws.proofs.Turns.{doing, fresh_call, opening_call, awaiting_call}

-- the bytes that the half's end sends for its answers
unfoldable all_answers : List Response → List ℕ
all_answers [] = []
all_answers (r ∷ rs) = answer_bytes r ++ all_answers rs

silent : (n : ℕ) (rs : List Response) → all_answers (replicate n nothing ++ rs) ≡ all_answers rs
unfolding all_answers bytes_of
silent zero rs = refl
silent (suc n) rs = silent n rs

module _ (d : List ℕ) where
  then_reaches : {a b c : Cable} → Reaches d a b → Reaches d b c → Reaches d a c
  then_reaches here q = q
  then_reaches (later p) q = later (then_reaches p q)

  -- the half takes all that is on its way to it
  abbrev Takes : List ℕ → Type 0
  Takes bs =
      (s : Sender) (own out : List ℕ) (h : LinkState) (buf : List ℕ) (rs : List Response) (ts : List ℕ) →
      Reaches d
      record { sender = s; own = own; output = out; half = h; buffer = buf; answers = rs; to_half = bs; to_sender = ts }
      record {
        sender = s;
        own = own;
        output = out;
        half = (feed h buf bs).state;
        buffer = (feed h buf bs).buffer;
        answers = rs ++ (feed h buf bs).answers;
        to_half = [];
        to_sender = ts ++ all_answers (feed h buf bs).answers;
      }

  takes : (bs : List ℕ) → Takes bs
  unfolding feed all_answers
  takes [] = λ s own out h buf rs ts. rw (append-nil rs, append-nil ts) here
  takes (b ∷ bs) =
      λ s own out h buf rs ts.
      let o = receive_of h (heard.Byte b) buf in
      let r = o.reaction.response in
      let f = feed o.reaction.next o.buffer bs in
      rw (← append_assoc rs (r ∷ []) f.answers, ← append_assoc ts (answer_bytes r) (all_answers f.answers))
      (later (takes bs s own out o.reaction.next o.buffer (rs ++ (r ∷ [])) (ts ++ answer_bytes r)))

module _ (s : Sender) (d own out buf : List ℕ) (check : ℕ) (u : Usable s) (fits : length d ≤ max_data) (room : length (frame_of d) ≤ length out)
    (place : length d ≤ length buf) where
  -- the sender in a phase, with no attempt failed, and the output after the opening and after the block
  abbrev in_phase : SendPhase → Sender
  in_phase p = into s (attempts 0 0) p

  abbrev opened : List ℕ
  opened = placed (STX ∷ []) out

  abbrev blocked : List ℕ
  blocked = placed (frame_of d) opened

  usable : (p : SendPhase) → Usable (in_phase p)
  usable p = record { connections = u.connections; blocks = u.blocks; failed = (omega arith, omega arith) }

  room_opened : length (frame_of d) ≤ length opened
  room_opened = omega (arith, length_frame d, length_placed (STX ∷ []) out (omega (arith, length_frame d)))

  room_blocked : length (frame_of d) ≤ length blocked
  room_blocked = omega (arith, room_opened, length_placed (frame_of d) opened room_opened)

  abbrev called : SendEvent → List ℕ → Call
  called e o = record { event = e; src = d; buffer = own; output = o }

  -- the five cables: started; with the half's first answer; with the block; with the half's second answer; and the last
  abbrev cable : SendPhase → List ℕ → LinkState → List ℕ → List Response → List ℕ → List ℕ → Cable
  cable p o h b rs th ts =
      record { sender = in_phase p; own = own; output = o; half = h; buffer = b; answers = rs; to_half = th; to_sender = ts }

  abbrev first : Cable
  first = cable Opening opened (at Rest 0 check) buf [] (STX ∷ []) []

  abbrev second : Cable
  second = cable Opening opened (at (Inside NotSeen) 0 0) buf (half.sends DLE ∷ []) [] (DLE ∷ [])

  abbrev third : Cable
  third = cable Awaiting blocked (at (Inside NotSeen) 0 0) buf (half.sends DLE ∷ []) (frame_of d) []

  abbrev fourth : Cable
  fourth = cable Awaiting blocked (at Rest 0 0) (placed d buf) (frame_answers d) [] (DLE ∷ [])

  abbrev fifth : Cable
  fifth = cable Sent blocked (at Rest 0 0) (placed d buf) (frame_answers d) [] []

  -- the half takes the STX
  to_second : Reaches d first second
  unfolding all_answers bytes_of part_bytes
  to_second =
      let e : feed (at Rest 0 check) buf (STX ∷ []) ≡ record { answers = half.sends DLE ∷ []; state = at (Inside NotSeen) 0 0; buffer = buf } =
      fed_stx check buf [] ∙ ap (after (half.sends DLE ∷ [])) (fed_none (at (Inside NotSeen) 0 0) buf) in
      subst
      (λ (f : Fed). Reaches d first (cable Opening opened f.state f.buffer ([] ++ f.answers) [] ([] ++ all_answers f.answers)))
      e (takes d (STX ∷ []) (in_phase Opening) own opened (at Rest 0 check) buf [] [])

  -- the sender takes the DLE, and sends the block
  opening_out : send_of (in_phase Opening) (Byte DLE) d own opened ≡ doing (sending (block ∷ []) (in_phase Awaiting)) (called (Byte DLE) opened)
  unfolding opening_of
  opening_out =
      opening_call s (attempts 0 0) (called (Byte DLE) opened) fits room_opened (usable Opening)
      ∙ ap (λ (t : Turn). doing t (called (Byte DLE) opened)) (opening_dle (in_phase Opening) DLE refl)

  block_bytes : bytes_of d (block ∷ []) ≡ frame_of d
  unfolding bytes_of part_bytes
  block_bytes = append-nil (frame_of d)

  to_third : Reaches d second third
  to_third =
      later
      (subst (λ (c : Cable). Reaches d c third)
      (sym
      (ap (λ (r : Sending). sender_done second [] r.outcome) opening_out
      ∙ ap (λ (bs : List ℕ). sender_done second [] (record { reaction = record { response = sends (length bs); next = in_phase Awaiting }; buffer = own; output = placed bs opened })) block_bytes
      ∙ ap (λ (bs : List ℕ). cable Awaiting blocked (at (Inside NotSeen) 0 0) buf (half.sends DLE ∷ []) bs []) (take_placed (frame_of d) opened)))
      here)

  -- the half takes the block: what the round trip says of STX and the frame, without the STX
  abbrev block_fed : Fed
  block_fed = feed (at (Inside NotSeen) 0 0) buf (frame_of d)

  all_fed : after (half.sends DLE ∷ []) block_fed ≡ record { answers = frame_answers d; state = at Rest 0 0; buffer = placed d buf }
  all_fed = sym (fed_stx check buf (frame_of d)) ∙ round_trip d buf check fits place

  answered_once : all_answers block_fed.answers ≡ DLE ∷ []
  unfolding all_answers bytes_of part_bytes
  answered_once =
      ap (λ (f : Fed). all_answers (drop 1 f.answers)) all_fed ∙ silent (length (frame_of d) - 1) (delivers DLE (length d) ∷ [])

  to_fourth : Reaches d third fourth
  to_fourth =
      subst (λ (ts : List ℕ). Reaches d third (cable Awaiting blocked (at Rest 0 0) (placed d buf) (frame_answers d) [] ts))
      answered_once
      (subst
      (λ (f : Fed). Reaches d third (cable Awaiting blocked f.state f.buffer f.answers [] (all_answers block_fed.answers)))
      all_fed
      (takes d (frame_of d) (in_phase Awaiting) own blocked (at (Inside NotSeen) 0 0) buf (half.sends DLE ∷ []) []))

  -- the sender takes the DLE, and is done
  awaiting_out : send_of (in_phase Awaiting) (Byte DLE) d own blocked ≡ doing (sending [] (in_phase Sent)) (called (Byte DLE) blocked)
  unfolding awaiting_of
  awaiting_out =
      awaiting_call s (attempts 0 0) (called (Byte DLE) blocked) fits room_blocked (usable Awaiting)
      ∙ ap (λ (t : Turn). doing t (called (Byte DLE) blocked)) (awaiting_dle (in_phase Awaiting) DLE refl)

  to_fifth : Reaches d fourth fifth
  unfolding bytes_of placed
  to_fifth =
      later
      (subst (λ (c : Cable). Reaches d c fifth) (sym (ap (λ (r : Sending). sender_done fourth [] r.outcome) awaiting_out)) here)

  -- the sender is started
  starting : s.phase ≡ Fresh → send_of s Start d own out ≡ doing (sending (opening ∷ []) (in_phase Opening)) (called Start out)
  unfolding fresh_of
  starting h =
      ap (λ (p : SendPhase). send_of (into s s.failed p) Start d own out) h
      ∙ fresh_call s s.failed (called Start out) fits room
      (record { connections = u.connections; blocks = u.blocks; failed = u.failed })

  arrives : s.phase ≡ Fresh → Arrives s d buf (started d s own out check buf)
  unfolding bytes_of part_bytes placed
  arrives h =
      record {
        end = fifth;
        reached =
            subst (λ (c : Cable). Reaches d c fifth)
            (sym (ap (λ (r : Sending). after_start check buf r.outcome) (starting h)))
            (then_reaches d to_second (then_reaches d to_third (then_reaches d to_fourth to_fifth)));
        delivered = record { sender = refl; half = refl; buffer = refl; answers = refl; to_half = refl; to_sender = refl };
      }

pub end_to_end : EndToEnd
end_to_end s d own out buf check u h fits room place = arrives s d own out buf check u fits room place h
