-- The telegrams of a journey: what makes one faultless, how it is shown, and what is sent of it.
-- Assumes nothing.
use mathlib.Core.Path.{◌≡◌, refl, sym, ◌∙◌, ap, ap₂, subst}
use mathlib.Core.Bool.{true, ◌&&◌}
use mathlib.Core.List.{List, ◌∷◌}
use Prim.Native.Nat.{ℕ, ◌+◌, ◌≤◌}
use native.Mathlib.Omega.{arith}
use lib.ListN.{length}
use Rattle.mop_block.specs.Block.{good_block, first, roll_left, roll_right}
use Rattle.mop_header.specs.Header.{Head, head, function_byte, telegram_of, body_of, mark_byte, with_mark, remarked, rolled_left, rolled_right}
use Rattle.mop_header.specs.Header.{new_control, as_reply, sent_back}
use Rattle.mop_reader.specs.Reading.{Reading, sound, allowed, good_for, max_telegram, reading}
use Rattle.mop_reader.specs.ReadBack.{sized, InOrder}
use Rattle.mop_header.specs.declared.Function.{Function}
use Rattle.mop_header.specs.declared.Function.TheVariants.{Request, Reply}
use Rattle.mop_header.specs.declared.Form.{Form}
use Rattle.mop_header.specs.declared.Form.TheVariants.{Standard, Extended}
use Rattle.mop_reader.specs.declared.Reader.TheVariants.{Station}
use Rattle.mop_header.proofs.Lengths.{length_remarked, header_room, length_header}
use Rattle.mop_reader.proofs.Sizes.{header_bound}
use Rattle.mop_header.proofs.Marks.{remarked_agrees, remarked_block, marked_twice}
use Rattle.mop_reader.proofs.ReadBack.{reads_back, is_written, body_behind}
use Rattle.mop_header.proofs.Writing.{length_telegram}
use Rattle.mop_step.specs.Step.{replied, max_reply}
use Rattle.net_journey.specs.Terms.{shows, shown_in, shown, is_fine, all_fine}

-- a telegram with the mark that its block asks for
abbrev pub telegram_for : Function → ℕ → Form → List ℕ → List ℕ → List ℕ
telegram_for f c form b body = telegram_of (remarked (head f c form b)) body

pub length_read : (h : Head) (body : List ℕ) → length (telegram_of h body) ≡ header_room h.form (length h.block) + length body
length_read h body = length_telegram h body ∙ ap (λ (n : ℕ). n + length body) (length_header h)

-- what makes such a telegram one without a fault: the block rule, the block's length, and the telegram's length
pub record Faultless (form : Form) (b body : List ℕ) : Type 0 where
  pub good : good_block b ≡ true
  pub size : sized form (length b) ≡ true
  pub short : header_room form (length b) + length body ≤ max_telegram

pub sound_faultless : (tg : List ℕ) (h : Head) → reading Station tg ≡ sound h → Faultless h.form h.block (body_of h tg)
unfolding good_for
sound_faultless tg h order =
    let well = is_written Station tg h order in
    record {
      good = well.order.block;
      size = well.order.size;
      short = subst (λ (n : ℕ). n ≤ max_telegram) (sym (ap length well.whole) ∙ length_read h (body_of h tg)) well.short;
    }

pub sized_with : (form : Form) (k n : ℕ) → sized (with_mark form k) n ≡ sized form n
unfolding sized with_mark
sized_with Standard k n = refl
sized_with (Extended mark) k n = refl

both_allowed : (f : Function) → allowed Station (function_byte f) ≡ true
unfolding allowed
both_allowed Request = refl
both_allowed Reply = refl

module _ (f : Function) (c : ℕ) {form : Form} {b body : List ℕ} (w : Faultless form b body) where
  in_order : InOrder Station (remarked (head f c form b))
  unfolding remarked good_for
  in_order = record {
    function = both_allowed f;
    size = sized_with form (mark_byte f (first b)) (length b) ∙ w.size;
    block = w.good;
    mark = remarked_agrees (head f c form b);
  }

  whole_length : length (telegram_for f c form b body) ≡ header_room form (length b) + length body
  whole_length =
      length_telegram (remarked (head f c form b)) body
      ∙ ap (λ (n : ℕ). n + length body) (length_remarked (head f c form b) ∙ length_header (head f c form b))

  pub reads_well : reading Station (telegram_for f c form b body) ≡ sound (remarked (head f c form b))
  reads_well = (reads_back Station (remarked (head f c form b)) body in_order (rw whole_length w.short)).0

  pub still_fine : (rest : List (List ℕ)) → all_fine rest ≡ true → all_fine (telegram_for f c form b body ∷ rest) ≡ true
  still_fine rest e = ap (λ (r : Reading). is_fine r && all_fine rest) reads_well ∙ e

  pub shown_as : {a : ℕ} → first b ≡ a → shown (telegram_for f c form b body) ≡ shows f a body
  unfolding remarked
  shown_as e =
      let h = remarked (head f c form b) in
      ap (λ (r : Reading). shown_in r (telegram_of h body)) reads_well ∙ ap₂ (shows f) e (body_behind h body)

  pub first_is : {a : ℕ} → first b ≡ a → first (remarked (head f c form b)).block ≡ a
  first_is e = ap first (remarked_block (head f c form b)) ∙ e

-- with such a header a reply has room
pub reply_short : {form : Form} {b body : List ℕ} → Faultless form b body → (reply : List ℕ) → length reply ≤ max_reply →
    header_room form (length b) + length reply ≤ max_telegram
reply_short {form} {b} w reply l =
    let h = head Request 0 form b in
    omega (arith, length_remarked h, length_header h, header_bound Station (remarked h) (in_order Request 0 w))

-- what the relays and the destination send, from such a telegram
module _ (c : ℕ) (form : Form) (b : List ℕ) where
  pub relayed_left : rolled_left (remarked (head Request c form b)) ≡ remarked (head Request c form (roll_left b))
  unfolding rolled_left remarked mark_byte
  relayed_left = refl

  pub relayed_right : sent_back (remarked (head Reply c form b)) ≡ remarked (head Reply c form (roll_right b))
  unfolding sent_back rolled_right remarked
  relayed_right =
      ap (λ (n : Form). head Reply c n (roll_right b)) (marked_twice form (mark_byte Reply (first b)) (mark_byte Reply (first (roll_right b))))

  pub replied_right : replied (remarked (head Request c form b)) ≡ remarked (head Reply new_control form (roll_right b))
  unfolding replied as_reply sent_back rolled_right remarked
  replied_right =
      ap (λ (n : Form). head Reply new_control n (roll_right b)) (marked_twice form (mark_byte Request (first b)) (mark_byte Reply (first (roll_right b))))
