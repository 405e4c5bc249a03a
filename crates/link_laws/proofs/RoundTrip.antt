-- The round trip, by induction on the data.
-- Assumes nothing.
use mathlib.Core.Path.{◌≡◌, refl, ap, sym, ◌∙◌}
use mathlib.Core.Bool.{Bool, true, false}
use mathlib.Core.List.{List, [], ◌∷◌, ◌++◌, append_assoc}
use Prim.Native.Nat.{ℕ, ◌+◌, ◌-◌, ◌≤◌}
use native.Mathlib.Nat.{add-zero, add-suc, suc-add, zero-add}
use native.Mathlib.Numerals.{add-one}
use native.Mathlib.Omega.{arith}
use borrow.Author.Tests.{eqb-true, eqb-false}
use lib.Bits.{bit_xor}
use lib.Dec.{eqb}
use lib.ListN.{length, set, length-set, replicate, replicate-append-replicate}
use lib.Seq.{sets, length-sets}
use Rattle.base.specs.Places.{placed}
use Rattle.base.proofs.Places.{sets_placed}
use Rattle.link_frame.specs.ControlBytes.{ETX, DLE}
use Rattle.link_frame.specs.Frame.{doubled, xor_over, check_byte, frame_of}
use Rattle.link_frame.proofs.Doubling.{sent_dle, sent_other}
use Rattle.link_frame.proofs.Check.{check_byte_lem}
use Rattle.link_frame.proofs.Framing.{frame_bytes, length_frame}
use Rattle.link_receive.specs.Receive.{Response, nothing, sends, delivers, at}
use Rattle.link_receive.specs.declared.Dle.TheVariants.{NotSeen}
use Rattle.link_receive.specs.declared.Phase.TheVariants.{Rest, Inside}
use Rattle.link_laws.specs.Feeding.{Fed, after, feed}
use Rattle.link_laws.specs.RoundTrip.{RoundTrip}
use Rattle.link_laws.proofs.Feeding.{fed_none, fed_stx, fed_data, fed_first, fed_second, fed_etx, fed_check}

-- the doubled data is taken in, one place for each byte of the data
abbrev Taken : List ℕ → Type 0
Taken d =
    (n c : ℕ) (buf ts : List ℕ) → n + length d ≤ length buf → n + length d ≤ 1024 →
    feed (at (Inside NotSeen) n c) buf (doubled d ++ ts)
    ≡ after (replicate (length (doubled d)) nothing) (feed (at (Inside NotSeen) (n + length d) (xor_over c (doubled d))) (sets buf n d) ts)

-- an answer before others
before : (r : Response) {f g : Fed} → f ≡ g → after (r ∷ []) f ≡ after (r ∷ []) g
before r e = ap (after (r ∷ [])) e

more : (b : ℕ) (bs : List ℕ) → Taken bs → (v : Bool) → eqb b DLE ≡ v → Taken (b ∷ bs)
unfolding doubled xor_over
more b bs ih true e n c buf ts h k =
    rw (sent_dle b (eqb-true _ _ e), add-suc n (length bs), ← suc-add n (length bs), ← add-one n)
    (fed_first n c buf _ (omega arith) (omega arith) b (eqb-true _ _ e)
    ∙ before nothing
    (fed_second n (bit_xor c b) b buf _ (omega arith) (omega arith) (eqb-true _ _ e)
    ∙ before nothing (ih (n + 1) _ (set buf n b) ts (simp length-set (omega arith)) (omega arith))))
more b bs ih false e n c buf ts h k =
    rw (sent_other b (eqb-false _ _ e), add-suc n (length bs), ← suc-add n (length bs), ← add-one n)
    (fed_data n c b buf _ (omega arith) (omega arith) (eqb-false _ _ e)
    ∙ before nothing (ih (n + 1) _ (set buf n b) ts (simp length-set (omega arith)) (omega arith)))

taken : (d : List ℕ) → Taken d
unfolding doubled xor_over
taken [] = λ n c buf ts h k. rw add-zero
taken (b ∷ bs) = more b bs (taken bs) (eqb b DLE) refl

-- DLE, ETX and the check byte end the block
ended : (n c : ℕ) (buf : List ℕ) → n ≤ length buf → n ≤ 1024 →
    feed (at (Inside NotSeen) n c) buf (DLE ∷ ETX ∷ bit_xor (bit_xor c DLE) ETX ∷ [])
    ≡ record { answers = nothing ∷ nothing ∷ delivers DLE n ∷ []; state = at Rest 0 0; buffer = buf }
ended n c buf h k =
    fed_first n c buf _ h k DLE refl
    ∙ before nothing
    (fed_etx n (bit_xor c DLE) buf _ h k
    ∙ before nothing (fed_check n (bit_xor (bit_xor c DLE) ETX) buf [] h k ∙ before (delivers DLE n) (fed_none _ _)))

-- two more of the same
two_more : (n m : ℕ) (rs : List Response) → m ≡ n + 2 → replicate n nothing ++ (nothing ∷ nothing ∷ rs) ≡ replicate m nothing ++ rs
two_more n m rs e =
    rw e (sym (append_assoc (replicate n nothing) (nothing ∷ nothing ∷ []) rs)
    ∙ ap (λ (l : List Response). l ++ rs) (replicate-append-replicate n 2 nothing))

-- the end of the frame, after data that is taken in
closing : (d buf : List ℕ) → length d ≤ length buf → length d ≤ 1024 →
    feed (at (Inside NotSeen) (0 + length d) (xor_over 0 (doubled d))) (sets buf 0 d) (DLE ∷ ETX ∷ check_byte d ∷ [])
    ≡ record { answers = nothing ∷ nothing ∷ delivers DLE (length d) ∷ []; state = at Rest 0 0; buffer = placed d buf }
closing d buf h k =
    rw (zero-add (length d), check_byte_lem d, ← sets_placed d buf h) (ended (length d) _ (sets buf 0 d) (simp length-sets h) k)

pub round_trip : RoundTrip
round_trip d buf c k h =
    fed_stx c buf (frame_of d)
    ∙ before (sends DLE)
    (ap (feed (at (Inside NotSeen) 0 0) buf) (frame_bytes d)
    ∙ taken d 0 0 buf _ (omega arith) (omega arith)
    ∙ ap (after (replicate (length (doubled d)) nothing)) (closing d buf h k)
    ∙ ap (λ (rs : List Response). record { answers = rs; state = at Rest 0 0; buffer = placed d buf })
    (two_more (length (doubled d)) (length (frame_of d) - 1) (delivers DLE (length d) ∷ []) (omega (arith, length_frame d))))
