-- What the centre reads in a telegram.
-- Assumes nothing.
use Rattle.std.specs.Prelude.{ℕ, ◌+◌, ◌-◌, ◌*◌, ◌≤◌, ◌≡◌, not, List, [], ◌++◌, Option, Some, None, Result, Ok, Err, eqb, length}
use Rattle.std.specs.Borrow.{Bor}
use Rattle.base.specs.Choice.{pick}
use Rattle.refusal.specs.Numbers.{number_of}
use Rattle.refusal.specs.declared.Refusal.{Refusal}
use Rattle.mop_block.specs.Block.{stations, first}
use Rattle.mop_block.specs.Zipper.{zeros}
use Rattle.mop_header.specs.Header.{Head, header_length, body_of}
use Rattle.mop_reader.specs.Reading.{Reading, sound, faulty, reading}
use Rattle.mop_reader.specs.declared.Reader.TheVariants.{Centre}
use Rattle.mop_body.specs.Body.{read_start, read_count, value_bytes}
use Rattle.mop_centre.specs.Request.{max_route}
use Rattle.mop_centre.specs.declared.Reply.{Reply}

-- what the centre says of a telegram: it is a reply for the centre; "not mine"; or the number of a refusal
pub data Receipt : Type 0 where
  accepted : Receipt
  not_mine : Receipt
  refuses : ℕ → Receipt

-- 7 for a body that is not as long as its count says
unfoldable pub judged_reply : List ℕ → Receipt
judged_reply body = pick (not (eqb (length body) (3 + 2 * read_count body))) (refuses 7) accepted

-- a fault of the header is refused; a telegram whose first entry is not 00 is for a station, and "not mine"; then the body
unfoldable pub receiving : Reading → List ℕ → Receipt
receiving (faulty k) telegram = refuses k
receiving (sound h) telegram = pick (not (eqb (first h.block) 0)) not_mine (judged_reply (body_of h telegram))

-- the whole verdict: 12 and 2 to 6 by `reading`, then "not mine", then 7
unfoldable pub reply_receipt : List ℕ → Receipt
reply_receipt telegram = receiving (reading Centre telegram) telegram

-- what is told of a reply: the verdict, the route in its places, read start and read count, and the place where the bytes of the
-- values begin
pub record Answer : Type 0 where
  pub receipt : Receipt
  pub route : List ℕ
  pub start : ℕ
  pub count : ℕ
  pub place : ℕ

abbrev pub told : Receipt → List ℕ → ℕ → ℕ → ℕ → Answer
told receipt route start count place = record { receipt = receipt; route = route; start = start; count = count; place = place }

-- the answer of the code; unless a reply is accepted, zeros stand beside the verdict
abbrev pub answer_of : Result (Option Reply) Refusal → Answer
answer_of (Ok (Some r)) = told accepted r.route r.start r.count r.values_at
answer_of (Ok None) = told not_mine (zeros max_route) 0 0 0
answer_of (Err r) = told (refuses (number_of r)) (zeros max_route) 0 0 0

-- where in the telegram a stretch of it begins: at a place; or anywhere, which is left free
pub data Place : Type 0 where
  at : ℕ → Place
  anywhere : Place

-- what reading a reply gives: what is told of it, and the stretch with its values: their bytes, and where it begins
pub record ReplyReading : Type 0 where
  pub answer : Answer
  pub values : List ℕ
  pub begins : Place

-- the stations in order, and 0 in the places that are left
unfoldable pub route_places : List ℕ → List ℕ
route_places route = route ++ zeros (max_route - length route)

-- an accepted reply with these stations, this run, these bytes of values, and the place where they begin
abbrev pub accepted_reading : List ℕ → ℕ → ℕ → List ℕ → ℕ → ReplyReading
accepted_reading route start count bytes place = record {
  answer = told accepted (route_places route) start count place;
  values = bytes;
  begins = at place;
}

-- an accepted reply, of its header and its body
unfoldable pub read_out : Head → List ℕ → ReplyReading
read_out h body = accepted_reading (stations h.block) (read_start body) (read_count body) (value_bytes body) (header_length h + 3)

-- any other: zeros, and an empty stretch
unfoldable pub unread : Receipt → ReplyReading
unread r = record {
  answer = told r (zeros max_route) 0 0 0;
  values = [];
  begins = anywhere;
}

-- by the verdict: an accepted reply is read out, and of any other only the verdict is told
unfoldable pub opened : Receipt → Head → List ℕ → ReplyReading
opened accepted h telegram = read_out h (body_of h telegram)
opened not_mine h telegram = unread not_mine
opened (refuses k) h telegram = unread (refuses k)

-- by what reading the header gave
unfoldable pub opened_by : Reading → List ℕ → ReplyReading
opened_by (faulty k) telegram = unread (refuses k)
opened_by (sound h) telegram = opened (receiving (sound h) telegram) h telegram

-- both calls are of this: one gives the answer, the other the stretch
unfoldable pub reply_reading : List ℕ → ReplyReading
reply_reading telegram = opened_by (reading Centre telegram) telegram

-- a slice that is lent from the telegram's own bytes, and begins so many behind the first of them. A pointer is a block of memory,
-- and an offset in it in bytes
abbrev pub LiesAt : Bor (List ℕ) → Bor (List ℕ) → ℕ → Type 0
LiesAt telegram r place = r.ref_ptr ≡ (telegram.ref_ptr.0, place + telegram.ref_ptr.1)

abbrev pub Begins : Bor (List ℕ) → Bor (List ℕ) → Place → Type 0
Begins telegram r (at place) = LiesAt telegram r place
Begins telegram r anywhere = (place : ℕ) × (place ≤ length telegram.now) × LiesAt telegram r place
