-- What a reading tells, and the places for it.
-- Assumes nothing.
use mathlib.Core.Path.{◌≡◌, refl, sym, ◌∙◌, ap}
use mathlib.Core.Bool.{true, false, and-false, and-eq-true_iff}
use mathlib.Core.List.{List, [], ◌∷◌}
use Prim.Native.Nat.{ℕ, ◌-◌, ◌≤◌}
use native.Mathlib.Omega.{arith}
use borrow.Author.Tests.{eqb-true, eq-eqb, ne_eqb}
use lib.Dec.{eqb}
use lib.ListN.{length, length-drop}
use Rattle.base.proofs.Places.{take_rest}
use Rattle.mop_reader.specs.Reading.{max_telegram}
use Rattle.mop_reader.specs.declared.Reader.TheVariants.{Centre}
use Rattle.mop_reader.proofs.ReadBack.{is_written}
use Rattle.mop_centre.specs.Request.{max_route}
use Rattle.mop_centre.specs.Reply.{Receipt, accepted, not_mine, refuses, Answer, unread, reply_reading}
use Rattle.mop_centre.proofs.Replies.{accepted_passed, not_mine_read, refused_read, receipt_told, stretch_room, stretch_bytes}
use Rattle.c_answer.specs.Answer.{refused}
use Rattle.c_mop.specs.Centre.{of_receipt, has_reply_places, reply_told, reply_told_by, read_reply_call}

-- the places, by their lengths
pub record Places (route run : List ℕ) : Type 0 where
  pub route_long : length route ≡ max_route
  pub run_long : length run ≡ 3

pub places_parts : (route run : List ℕ) → has_reply_places route run ≡ true → Places route run
unfolding has_reply_places
places_parts route run g =
    let p = (and-eq-true_iff (eqb (length route) max_route) (eqb (length run) 3)).0 g in
    record { route_long = eqb-true (length route) max_route p.0; run_long = eqb-true (length run) 3 p.1 }

pub are_places : (route run : List ℕ) → length route ≡ max_route → length run ≡ 3 → has_reply_places route run ≡ true
unfolding has_reply_places
are_places route run a b = rw (eq-eqb (length route) max_route a, eq-eqb (length run) 3 b)

-- the call, by these
module _ (telegram route run : List ℕ) where
  no_places : has_reply_places route run ≡ false → read_reply_call telegram route run ≡ reply_told (refused 1) route run
  unfolding read_reply_call
  no_places h = rw h

  pub bad_route : (length route ≡ max_route → ⊥) → read_reply_call telegram route run ≡ reply_told (refused 1) route run
  unfolding has_reply_places
  bad_route h = no_places (rw (ne_eqb (length route) max_route h))

  pub bad_run : (length run ≡ 3 → ⊥) → read_reply_call telegram route run ≡ reply_told (refused 1) route run
  unfolding has_reply_places
  bad_run h = no_places (rw (ne_eqb (length run) 3 h, and-false (eqb (length route) max_route)))

  pub with_places : has_reply_places route run ≡ true → read_reply_call telegram route run ≡ reply_told_by (reply_reading telegram)
  unfolding read_reply_call
  with_places h = rw h

-- what is told of a telegram
module _ (telegram : List ℕ) {told : Answer} (is : told ≡ (reply_reading telegram).answer) where
  -- the values of an accepted reply are the end of a telegram that is not too long
  module _ (a : told.receipt ≡ accepted) where
    pub telegram_short : length telegram ≤ max_telegram
    telegram_short = let p = accepted_passed telegram (receipt_told telegram is a) in (is_written Centre telegram p.0 p.1.order).short

    pub values_long : length telegram - told.place ≡ length (reply_reading telegram).values
    values_long = sym (length-drop told.place telegram) ∙ ap length (sym (take_rest told.place telegram) ∙ stretch_bytes telegram is a)

  -- of any other the place is 0
  place_by : (x : Receipt) → told.receipt ≡ x → told.place ≤ max_telegram
  unfolding unread
  place_by accepted e = omega (arith, stretch_room telegram is e, telegram_short e)
  place_by not_mine e = rw (is, not_mine_read telegram (receipt_told telegram is e)) (omega arith)
  place_by (refuses k) e = rw (is, refused_read telegram (receipt_told telegram is e)) (omega arith)

  pub place_small : told.place ≤ max_telegram
  place_small = place_by told.receipt refl

  -- what is written and given back, by the receipt
  pub tells : {x : Receipt} {n : ℕ} {route run : List ℕ} → told.receipt ≡ x → n ≡ of_receipt x (reply_reading telegram).values →
      route ≡ told.route → run ≡ told.start ∷ told.count ∷ told.place ∷ [] → reply_told n route run ≡ reply_told_by (reply_reading telegram)
  tells e value stations numbers = rw (value, stations, numbers, ← is, e)
