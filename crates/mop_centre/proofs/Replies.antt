-- Reading a reply: the verdict, test by test, and what an accepted one has passed.
-- Assumes nothing.
use mathlib.Core.Path.{◌≡◌, refl, sym, ◌∙◌, ap}
use mathlib.Core.Bool.{Bool, true, false, not}
use mathlib.Core.List.{List}
use Prim.Native.Nat.{ℕ, ◌+◌, ◌-◌, ◌*◌, ◌≤◌, ◌<◌}
use native.Mathlib.Omega.{arith}
use borrow.Author.Tests.{eq-eqb, ne_eqb, eqb-true}
use lib.Dec.{eqb}
use lib.ListN.{length, take, drop, length-drop, get_or-eq_default}
use lib.Seq.{drop-drop}
use Rattle.base.specs.Choice.{pick}
use Rattle.base.proofs.Places.{rest_from}
use Rattle.mop_block.specs.Block.{stations, first}
use Rattle.mop_header.specs.Header.{Head, head_of, block_start, header_length, body_of}
use Rattle.mop_block.proofs.Stations.{named_bound}
use Rattle.mop_reader.specs.Reading.{Reading, sound, faulty, reading}
use Rattle.mop_header.specs.declared.Header.{Header}
use Rattle.mop_reader.specs.declared.Reader.TheVariants.{Centre}
use Rattle.mop_header.proofs.Lengths.{start_most, length_header, counted}
use Rattle.mop_reader.proofs.Sizes.{sized_most}
use Rattle.mop_reader.proofs.Readers.{taken_good}
use Rattle.mop_reader.proofs.ReadBack.{is_written, sound_room}
use Rattle.mop_body.specs.Body.{read_count}
use Rattle.mop_centre.specs.Request.{max_route}
use Rattle.mop_centre.specs.Reply.{Receipt, accepted, not_mine, refuses, judged_reply, receiving, reply_receipt, Answer, ReplyReading, at, read_out, unread, opened, opened_by, reply_reading}

-- the length of the body
module _ (body : List ℕ) where
  wrong_length : eqb (length body) (3 + 2 * read_count body) ≡ false → judged_reply body ≡ refuses 7
  unfolding judged_reply
  wrong_length e = rw e

  pub right_length : length body ≡ 3 + 2 * read_count body → judged_reply body ≡ accepted
  unfolding judged_reply
  right_length e = rw (eq-eqb (length body) (3 + 2 * read_count body) e)

-- a body that is too short for a count has none
short_count : (body : List ℕ) → length body < 3 → read_count body ≡ 0
short_count body h = get_or-eq_default body 0 (omega arith)

pub short_body : (body : List ℕ) → length body < 3 → eqb (length body) (3 + 2 * read_count body) ≡ false
short_body body h = ne_eqb (length body) (3 + 2 * read_count body) (λ e. omega (arith, short_count body h))

-- by the first entry
module _ (h : Head) (telegram : List ℕ) where
  pub for_station : (first h.block ≡ 0 → ⊥) → receiving (sound h) telegram ≡ not_mine
  unfolding receiving
  for_station n = rw (ne_eqb (first h.block) 0 n)

  pub for_centre : first h.block ≡ 0 → receiving (sound h) telegram ≡ judged_reply (body_of h telegram)
  unfolding receiving
  for_centre e = rw (eq-eqb (first h.block) 0 e)

-- by what reading gave
pub receipt_by : (telegram : List ℕ) {r : Reading} → r ≡ reading Centre telegram → reply_receipt telegram ≡ receiving r telegram
unfolding reply_receipt
receipt_by telegram read = rw read

-- what an accepted reply has passed
pub record Passed (telegram : List ℕ) (h : Head) : Type 0 where
  pub order : reading Centre telegram ≡ sound h
  pub mine : first h.block ≡ 0
  pub long : length (body_of h telegram) ≡ 3 + 2 * read_count (body_of h telegram)

refuses_accepted : (k : ℕ) → refuses k ≡ accepted → ⊥
refuses_accepted k e = let z : ◌≡◌ {A = ℕ} 0 1 = cc in omega arith

not_mine_accepted : not_mine ≡ accepted → ⊥
not_mine_accepted e = let z : ◌≡◌ {A = ℕ} 0 1 = cc in omega arith

length_passed : (t : Bool) → pick (not t) (refuses 7) accepted ≡ accepted → t ≡ true
length_passed true e = refl
length_passed false e = absurd (refuses_accepted 7 e)

first_passed : (r : Receipt) (t : Bool) → pick (not t) not_mine r ≡ accepted → (t ≡ true) × (r ≡ accepted)
first_passed r true e = (refl, e)
first_passed r false e = absurd (not_mine_accepted e)

passed_by : (telegram : List ℕ) (r : Reading) → reading Centre telegram ≡ r → receiving r telegram ≡ accepted → (h : Head) × Passed telegram h
unfolding receiving judged_reply
passed_by telegram (faulty k) e a = absurd (refuses_accepted k a)
passed_by telegram (sound h) e a =
    let body = body_of h telegram in
    let p = first_passed (judged_reply body) (eqb (first h.block) 0) a in (
      h,
      record {
        order = e;
        mine = eqb-true (first h.block) 0 p.0;
        long = eqb-true (length body) (3 + 2 * read_count body) (length_passed (eqb (length body) (3 + 2 * read_count body)) p.1);
      },
    )

pub accepted_passed : (telegram : List ℕ) → reply_receipt telegram ≡ accepted → (h : Head) × Passed telegram h
unfolding reply_receipt
accepted_passed telegram a = passed_by telegram (reading Centre telegram) refl a

-- the most bytes of a header of the code, and where its block begins
pub header_most : (header : Header) (slice : List ℕ) → header_length (head_of header slice) ≤ header.count + 7
header_most header slice = omega (arith, counted header slice, start_most header.form)

pub block_room : (header : Header) (telegram : List ℕ) → reading Centre telegram ≡ sound (head_of header (drop (block_start header.form) telegram)) →
    block_start header.form ≤ length telegram
block_room header telegram read =
    let h = head_of header (drop (block_start header.form) telegram) in
    omega (arith, sound_room Centre telegram h read, length_header h)

-- the body, where it stands in the telegram
module _ (telegram : List ℕ) where
  pub body_from : (h : Head) {n : ℕ} → n ≡ header_length h → take (length telegram - n) (drop n telegram) ≡ body_of h telegram
  unfolding body_of
  body_from h e = rest_from telegram e

pub route_room : (telegram : List ℕ) {h : Head} → reading Centre telegram ≡ sound h → length (stations h.block) ≤ max_route
route_room telegram {h} read =
    let order = (is_written Centre telegram h read).order in
    omega (arith, named_bound h.block (taken_good Centre h.block order.block), sized_most h.form (length h.block) order.size)

-- what is read in an accepted reply
module _ (telegram : List ℕ) {h : Head} (p : Passed telegram h) where
  receipt_passed : receiving (sound h) telegram ≡ accepted
  receipt_passed = for_centre h telegram p.mine ∙ right_length (body_of h telegram) p.long

  pub reply_read : reply_reading telegram ≡ read_out h (body_of h telegram)
  unfolding reply_reading opened_by opened
  reply_read = rw (p.order, receipt_passed)

  pub body_room : header_length h + 3 ≤ length telegram
  unfolding body_of
  body_room = omega (arith, p.long, length-drop (header_length h) telegram, sound_room Centre telegram h p.order)

-- and in any other nothing
opened_other : (x : Receipt) (h : Head) (telegram : List ℕ) → (x ≡ accepted → ⊥) → opened x h telegram ≡ unread x
unfolding opened
opened_other accepted h telegram n = absurd (n refl)
opened_other not_mine h telegram n = refl
opened_other (refuses k) h telegram n = refl

other_by : (telegram : List ℕ) (r : Reading) {x : Receipt} → receiving r telegram ≡ x → (x ≡ accepted → ⊥) → opened_by r telegram ≡ unread x
unfolding opened_by receiving
other_by telegram (faulty k) e n = ap unread e
other_by telegram (sound h) {x} e n = rw e (opened_other x h telegram n)

module _ (telegram : List ℕ) where
  pub other_read : {x : Receipt} → reply_receipt telegram ≡ x → (x ≡ accepted → ⊥) → reply_reading telegram ≡ unread x
  unfolding reply_reading reply_receipt
  other_read e n = other_by telegram (reading Centre telegram) e n

  pub not_mine_read : reply_receipt telegram ≡ not_mine → reply_reading telegram ≡ unread not_mine
  not_mine_read e = other_read e not_mine_accepted

  pub refused_read : {k : ℕ} → reply_receipt telegram ≡ refuses k → reply_reading telegram ≡ unread (refuses k)
  refused_read {k} e = other_read e (refuses_accepted k)

-- by the tests of the code
module _ (telegram : List ℕ) {h : Head} (read : reading Centre telegram ≡ sound h) where
  pub station_read : (first h.block ≡ 0 → ⊥) → reply_reading telegram ≡ unread not_mine
  station_read n = not_mine_read telegram (receipt_by telegram (sym read) ∙ for_station h telegram n)

  module _ (mine : first h.block ≡ 0) {body : List ℕ} (behind : body ≡ body_of h telegram) where
    pub miscounted_read : eqb (length body) (3 + 2 * read_count body) ≡ false → reply_reading telegram ≡ unread (refuses 7)
    miscounted_read e =
        refused_read telegram (receipt_by telegram (sym read) ∙ for_centre h telegram mine
        ∙ rw (← behind) (wrong_length body e))

    pub counted_read : eqb (length body) (3 + 2 * read_count body) ≡ true → reply_reading telegram ≡ read_out h body
    counted_read e =
        rw behind (reply_read telegram (record { order = read; mine = mine; long = rw (← behind) (eqb-true (length body) (3 + 2 * read_count body) e) }))

-- the verdict stands in what is read
receipt_opened : (x : Receipt) (h : Head) (telegram : List ℕ) → (opened x h telegram).answer.receipt ≡ x
unfolding opened read_out unread
receipt_opened accepted h telegram = refl
receipt_opened not_mine h telegram = refl
receipt_opened (refuses k) h telegram = refl

receipt_read_by : (r : Reading) (telegram : List ℕ) → (opened_by r telegram).answer.receipt ≡ receiving r telegram
unfolding opened_by receiving unread
receipt_read_by (faulty k) telegram = refl
receipt_read_by (sound h) telegram = receipt_opened (receiving (sound h) telegram) h telegram

pub receipt_read : (telegram : List ℕ) → (reply_reading telegram).answer.receipt ≡ reply_receipt telegram
unfolding reply_reading reply_receipt
receipt_read telegram = receipt_read_by (reading Centre telegram) telegram

-- the values of an accepted reply, where its answer tells their place
module _ (telegram : List ℕ) {told : Answer} (is : told ≡ (reply_reading telegram).answer) where
  pub receipt_told : {x : Receipt} → told.receipt ≡ x → reply_receipt telegram ≡ x
  receipt_told e = sym (receipt_read telegram) ∙ ap (λ (a : Answer). a.receipt) (sym is) ∙ e

  module _ (a : told.receipt ≡ accepted) where
    stretch : (h : Head) × Passed telegram h × (told.place ≡ header_length h + 3)
    unfolding read_out
    stretch =
        let p = accepted_passed telegram (receipt_told a) in
        (p.0, p.1, ap (λ (t : Answer). t.place) is ∙ ap (λ (r : ReplyReading). r.answer.place) (reply_read telegram p.1))

    pub stretch_room : told.place ≤ length telegram
    stretch_room = omega (arith, stretch.2, body_room telegram stretch.1)

    pub stretch_bytes : take (length telegram - told.place) (drop told.place telegram) ≡ (reply_reading telegram).values
    unfolding read_out body_of
    stretch_bytes =
        rest_from telegram stretch.2 ∙ sym (drop-drop 3 (header_length stretch.0) telegram)
        ∙ sym (ap (λ (r : ReplyReading). r.values) (reply_read telegram stretch.1))

    pub stretch_place : (reply_reading telegram).begins ≡ at told.place
    unfolding read_out
    stretch_place = ap (λ (r : ReplyReading). r.begins) (reply_read telegram stretch.1) ∙ ap at (sym stretch.2)
