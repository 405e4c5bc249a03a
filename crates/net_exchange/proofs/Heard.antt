-- What the centre says of transmissions that are not for it: requests, and replies to relays.
-- Assumes nothing.
use mathlib.Core.Path.{◌≡◌, refl, sym, ◌∙◌, ap, ap₂, subst}
use mathlib.Core.Bool.{true}
use mathlib.Core.List.{List, [], ◌∷◌, ◌++◌, map, tail, reverse, append_assoc, map-append, nil≢cons, cons≢nil, head-eq_of_cons-eq, tail-eq_of_cons-eq}
use Prim.Native.Nat.{ℕ, suc, ◌-◌, ◌≤◌}
use native.Mathlib.Omega.{arith}
use borrow.Author.Tests.{eqb-true, lt-ltb}
use lib.ListN.{length, get_or, replicate, length-reverse}
use Rattle.mop_block.specs.Block.{stations, first}
use Rattle.mop_block.specs.Zipper.{Full, nil, cons}
use Rattle.mop_block.proofs.Stations.{full_reverse}
use Rattle.mop_header.specs.Header.{Head, function_byte, header_bytes, telegram_of, body_of}
use Rattle.mop_reader.specs.Reading.{Reading, sound, faulty, allowed, max_telegram, reading}
use Rattle.mop_reader.specs.ReadBack.{sized, InOrder}
use Rattle.mop_header.specs.declared.Function.{Function}
use Rattle.mop_header.specs.declared.Function.TheVariants.{Request, Reply}
use Rattle.mop_header.specs.declared.Form.{Form}
use Rattle.mop_header.specs.declared.Form.TheVariants.{Standard, Extended}
use Rattle.mop_reader.specs.declared.Reader.TheVariants.{Station, Centre}
use Rattle.mop_header.proofs.Lengths.{header_room, length_header}
use Rattle.mop_reader.proofs.Readers.{taken_good, centre_takes, centre_allows}
use Rattle.mop_reader.proofs.ReadBack.{reads_back, is_written, sound_room}
use Rattle.mop_reader.proofs.Steps.{not_allowed}
use Rattle.mop_centre.specs.Reply.{Receipt, not_mine, refuses, receiving, reply_receipt}
use Rattle.mop_centre.proofs.Replies.{receipt_by, for_station}
use Rattle.net_journey.specs.Terms.{Shown, shows, unreadable, shown_in, shown, there_and_back, last_telegram}
use Rattle.net_journey.proofs.Fresh.{length_tail}
use Rattle.net_journey.proofs.Ring.{some_named}
use Rattle.net_exchange.proofs.Rolls.{last_behind}

-- the least header
room_least : (form : Form) (n : ℕ) → sized form n ≡ true → 6 ≤ header_room form n
unfolding sized
room_least Standard n e = omega (arith, eqb-true n 4 e)
room_least (Extended mark) n e = omega arith

-- the first byte
first_byte : (h : Head) (body : List ℕ) → get_or (telegram_of h body) 0 0 ≡ function_byte h.function
unfolding telegram_of header_bytes
first_byte h body = refl

-- a telegram that a station reads well
module _ (tg : List ℕ) (h : Head) (order : reading Station tg ≡ sound h) where
  request_refused : h.function ≡ Request → reply_receipt tg ≡ refuses 3
  unfolding receiving
  request_refused e =
      let w = is_written Station tg h order in
      let long : 6 ≤ length tg =
      omega (arith, sound_room Station tg h order, length_header h, room_least h.form (length h.block) w.order.size) in
      let byte : get_or tg 0 0 ≡ 0x60 = ap (λ (t : List ℕ). get_or t 0 0) (sym w.whole) ∙ first_byte h (body_of h tg) ∙ ap function_byte e in
      receipt_by tg (sym (not_allowed Centre tg w.short long (centre_allows (get_or tg 0 0) (λ r. omega (arith, byte, r)))))

  reply_not_mine : h.function ≡ Reply → (first h.block ≡ 0 → ⊥) → reply_receipt tg ≡ not_mine
  unfolding allowed
  reply_not_mine e n =
      let w = is_written Station tg h order in
      let o : InOrder Centre h = record {
        function = ap (λ (f : Function). allowed Centre (function_byte f)) e;
        size = w.order.size;
        block = centre_takes h.block (taken_good Station h.block w.order.block) ∙ lt-ltb 0 (length (stations h.block)) (some_named h.block n);
        mark = w.order.mark;
      } in
      let read : reading Centre tg ≡ sound h =
      subst (λ (t : List ℕ). reading Centre t ≡ sound h) w.whole
      (reads_back Centre h (body_of h tg) o (subst (λ (t : List ℕ). length t ≤ max_telegram) (sym w.whole) w.short)).0 in
      receipt_by tg (sym read) ∙ for_station h tg n

-- the same, as a telegram is shown
shown_kind : {f g : Function} {a b : ℕ} {x y : List ℕ} → shows f a x ≡ shows g b y → (f ≡ g) × (a ≡ b)
shown_kind e = (cc, cc)

unread_shown : {f : Function} {a : ℕ} {x : List ℕ} → unreadable ≡ shows f a x → ⊥
unread_shown e = let z : ◌≡◌ {A = ℕ} 0 1 = cc in omega arith

module _ (tg : List ℕ) {a : ℕ} {body : List ℕ} where
  request_by : (r : Reading) → reading Station tg ≡ r → shown_in r tg ≡ shows Request a body → reply_receipt tg ≡ refuses 3
  request_by (faulty k) e s = absurd (unread_shown s)
  request_by (sound h) e s = request_refused tg h e (shown_kind s).0

  reply_by : (r : Reading) → reading Station tg ≡ r → shown_in r tg ≡ shows Reply (suc a) body → reply_receipt tg ≡ not_mine
  reply_by (faulty k) e s = absurd (unread_shown s)
  reply_by (sound h) e s = reply_not_mine tg h e (shown_kind s).0 (λ z. omega (arith, (shown_kind s).1, z))

  request_heard : shown tg ≡ shows Request a body → reply_receipt tg ≡ refuses 3
  request_heard s = request_by (reading Station tg) refl s

  relay_heard : shown tg ≡ shows Reply (suc a) body → reply_receipt tg ≡ not_mine
  relay_heard s = reply_by (reading Station tg) refl s

-- transmissions that show stations one after the other
module _ (r : Receipt) (s : ℕ → Shown) (says : (tg : List ℕ) (a : ℕ) → shown tg ≡ s (suc a) → reply_receipt tg ≡ r) where
  all_heard : (xs : List (List ℕ)) {l : List ℕ} → Full l → map shown xs ≡ map s l → map reply_receipt xs ≡ replicate (length l) r
  all_heard [] nil e = refl
  all_heard (x ∷ xs) nil e = absurd (cons≢nil e)
  all_heard [] (cons f) e = absurd (nil≢cons e)
  all_heard (x ∷ xs) (cons {a = a} f) e =
      ap₂ (λ (u : Receipt) (us : List Receipt). u ∷ us) (says x a (head-eq_of_cons-eq e)) (all_heard xs f (tail-eq_of_cons-eq e))

pub requests_heard : (body : List ℕ) (xs : List (List ℕ)) {l : List ℕ} → Full l → map shown xs ≡ map (λ (a : ℕ). shows Request a body) l →
    map reply_receipt xs ≡ replicate (length l) (refuses 3)
requests_heard body = all_heard (refuses 3) (λ (a : ℕ). shows Request a body) (λ tg a s. request_heard tg s)

relays_heard : (reply : List ℕ) (xs : List (List ℕ)) {l : List ℕ} → Full l → map shown xs ≡ map (λ (a : ℕ). shows Reply a reply) l →
    map reply_receipt xs ≡ replicate (length l) not_mine
relays_heard reply = all_heard not_mine (λ (a : ℕ). shows Reply a reply) (λ tg a s. relay_heard tg s)

-- transmissions that show two lists, one behind the other
record Parts (xs : List (List ℕ)) (ss ts : List Shown) : Type 0 where
  front : List (List ℕ)
  rest : List (List ℕ)
  is : xs ≡ front ++ rest
  front_shown : map shown front ≡ ss
  rest_shown : map shown rest ≡ ts

parts : (xs : List (List ℕ)) (ss ts : List Shown) → map shown xs ≡ ss ++ ts → Parts xs ss ts
parts xs [] ts e = record { front = []; rest = xs; is = refl; front_shown = refl; rest_shown = e }
parts [] (s ∷ ss) ts e = absurd (nil≢cons e)
parts (x ∷ xs) (s ∷ ss) ts e =
    let p = parts xs ss ts (tail-eq_of_cons-eq e) in
    record {
      front = x ∷ p.front;
      rest = p.rest;
      is = ap (λ (l : List (List ℕ)). x ∷ l) p.is;
      front_shown = ap₂ (λ (u : Shown) (us : List Shown). u ∷ us) (head-eq_of_cons-eq e) p.front_shown;
      rest_shown = p.rest_shown;
    }

parts_behind : {xs : List (List ℕ)} {ss ts us vs : List Shown} (p : Parts xs ss vs) (q : Parts p.rest ts us) → xs ≡ p.front ++ (q.front ++ q.rest)
parts_behind p q = p.is ∙ ap (λ (l : List (List ℕ)). p.front ++ l) q.is

-- the last one by itself
last_heard : {r : Receipt} {s : Shown} (before xs : List (List ℕ)) → map shown xs ≡ s ∷ [] → reply_receipt (last_telegram (before ++ xs)) ≡ r →
    map reply_receipt xs ≡ r ∷ []
unfolding last_telegram
last_heard before [] e heard = absurd (nil≢cons e)
last_heard before (x ∷ y ∷ xs) e heard = absurd (cons≢nil (tail-eq_of_cons-eq e))
last_heard before (x ∷ []) e heard = ap (λ (u : Receipt). u ∷ []) (sym (ap reply_receipt (last_behind before x [])) ∙ heard)

full_tail : {l : List ℕ} → Full l → Full (tail l)
full_tail nil = nil
full_tail (cons f) = f

-- out and back: all but the last one are for stations
three_parts : (body reply : List ℕ) (all xs ys zs : List (List ℕ)) {route home : List ℕ} {r : Receipt} → Full route → Full home →
    all ≡ xs ++ (ys ++ zs) → map shown xs ≡ map (λ (a : ℕ). shows Request a body) route → map shown ys ≡ map (λ (a : ℕ). shows Reply a reply) home →
    map shown zs ≡ shows Reply 0 reply ∷ [] → reply_receipt (last_telegram all) ≡ r →
    map reply_receipt all ≡ replicate (length route) (refuses 3) ++ (replicate (length home) not_mine ++ (r ∷ []))
three_parts body reply all xs ys zs f g is out back last heard =
    let behind : (xs ++ ys) ++ zs ≡ all = append_assoc xs ys zs ∙ sym is in
    ap (map reply_receipt) is ∙ map-append reply_receipt xs (ys ++ zs)
    ∙ ap₂ (λ (u v : List Receipt). u ++ v) (requests_heard body xs f out)
    (map-append reply_receipt ys zs
    ∙ ap₂ (λ (u v : List Receipt). u ++ v) (relays_heard reply ys g back)
    (last_heard (xs ++ ys) zs last (ap (λ (l : List (List ℕ)). reply_receipt (last_telegram l)) behind ∙ heard)))

pub journey_heard : (body reply : List ℕ) (all : List (List ℕ)) {route : List ℕ} {r : Receipt} → Full route → map shown all ≡ there_and_back route body reply →
    reply_receipt (last_telegram all) ≡ r →
    map reply_receipt all ≡ replicate (length route) (refuses 3) ++ (replicate (length route - 1) not_mine ++ (r ∷ []))
journey_heard body reply all {route} {r} f e heard =
    let home = tail (reverse route) in
    let replies : List ℕ → List Shown = map (λ (a : ℕ). shows Reply a reply) in
    let p = parts all (map (λ (a : ℕ). shows Request a body) route) (replies (home ++ (0 ∷ []))) e in
    let q = parts p.rest (replies home) (replies (0 ∷ [])) (p.rest_shown ∙ map-append (λ (a : ℕ). shows Reply a reply) home (0 ∷ [])) in
    let many : length home ≡ length route - 1 = length_tail (reverse route) ∙ ap (λ (n : ℕ). n - 1) (length-reverse route) in
    subst (λ (n : ℕ). map reply_receipt all ≡ replicate (length route) (refuses 3) ++ (replicate n not_mine ++ (r ∷ []))) many
    (three_parts body reply all p.front q.front q.rest f (full_tail (full_reverse f)) (parts_behind p q)
    p.front_shown q.front_shown q.rest_shown heard)
