-- What is written at one end and read at the other: requests of the centre, and replies of a station.
-- Assumes nothing.
use Rattle.std.specs.Prelude.{ℕ, ◌+◌, ◌-◌, ◌*◌, ◌≤◌, ◌≡◌, true, List, length, get_or, take}
use Rattle.base.specs.Words.{bytes_of}
use Rattle.base.specs.Filling.{filled}
use Rattle.mop_block.specs.Block.{stations, first}
use Rattle.mop_header.specs.Header.{Head, header_length, telegram_of, body_of}
use Rattle.mop_reader.specs.Reading.{sound, max_telegram, reading}
use Rattle.mop_reader.specs.ReadBack.{InOrder, ReadWell}
use Rattle.mop_reader.specs.declared.Reader.TheVariants.{Station, Centre}
use Rattle.mop_body.specs.Body.{read_start, read_count, write_start, write_count, values_of, reply_with}
use Rattle.mop_centre.specs.Request.{good_route, request_head, max_run, requesting, max_request}
use Rattle.mop_centre.specs.Reply.{accepted, accepted_reading, read_out, unread, reply_reading}
use Rattle.net_journey.specs.Terms.{m, Fresh, destination}

-- the destination of a route: its last station
abbrev pub route_end : List ℕ → ℕ
route_end route = get_or route (length route - 1) 0

-- a telegram that is read as the request for this route, these runs and these values
pub record ReadsAs (route : List ℕ) (rStart rCount wStart : ℕ) (values telegram : List ℕ) : Type 0 where
  -- its header has no fault at a station, and its block is that of the route
  pub order : reading Station telegram ≡ sound (request_head route)
  -- the stations that the block names are the route, in order
  pub named : stations (request_head route).block ≡ route
  -- it is fresh; m is the route's length, and the destination its last station
  pub fresh : Fresh (request_head route)
  pub many : m (request_head route) ≡ length route
  pub last : destination (request_head route) ≡ route_end route
  -- its body gives back both runs and the values
  pub read_start_lem : read_start (body_of (request_head route) telegram) ≡ rStart
  pub read_count_lem : read_count (body_of (request_head route) telegram) ≡ rCount
  pub write_start_lem : write_start (body_of (request_head route) telegram) ≡ wStart
  pub write_count_lem : write_count (body_of (request_head route) telegram) ≡ length values
  pub values_back : values_of (body_of (request_head route) telegram) ≡ values
  pub whole_body : length (body_of (request_head route) telegram) ≡ 6 + 2 * length values

-- so is every telegram that the centre writes: the first n places of the output, where the call gives n
abbrev pub RequestReadsBack : Type 0
RequestReadsBack =
    (route : List ℕ) (rStart rCount wStart : ℕ) (values out : List ℕ) (n : ℕ) →
    (requesting route rStart rCount wStart values out).given ≡ filled n →
    ReadsAs route rStart rCount wStart values (take n (requesting route rStart rCount wStart values out).output)

-- and no good call is refused: with as many places as the longest request has there is room for every one
abbrev pub EveryRequestFits : Type 0
EveryRequestFits =
    (route : List ℕ) (rStart rCount wStart : ℕ) (values out : List ℕ) →
    good_route route ≡ true → rCount ≤ max_run → length values ≤ max_run → max_request ≤ length out →
    (n : ℕ) × ((requesting route rStart rCount wStart values out).given ≡ filled n)

-- a reply with a header in order and a 00 first, which repeats the read start and count of a request's body and has as many values
-- as that count says: the centre is given its stations, the run, and the bytes of the values
abbrev pub ReplyReadsBack : Type 0
ReplyReadsBack =
    (h : Head) (body values : List ℕ) → InOrder Centre h → first h.block ≡ 0 → length values ≡ read_count body →
    length (telegram_of h (reply_with body values)) ≤ max_telegram →
    reply_reading (telegram_of h (reply_with body values))
    ≡ accepted_reading (stations h.block) (read_start body) (read_count body) (bytes_of values) (header_length h + 3)

-- and what the centre accepts is a reply for the centre: a telegram that reads well, with a 00 first and a body as long as its count
-- says
pub record IsReply (telegram : List ℕ) (h : Head) : Type 0 where
  pub well : ReadWell Centre telegram h
  pub for_centre : first h.block ≡ 0
  pub long : length (body_of h telegram) ≡ 3 + 2 * read_count (body_of h telegram)
  pub read : reply_reading telegram ≡ read_out h (body_of h telegram)

abbrev pub AcceptedIsReply : Type 0
AcceptedIsReply = (telegram : List ℕ) → (reply_reading telegram).answer.receipt ≡ accepted → (h : Head) × IsReply telegram h

-- of any other telegram the verdict is all that is told
abbrev pub OthersTellNothing : Type 0
OthersTellNothing =
    (telegram : List ℕ) → ((reply_reading telegram).answer.receipt ≡ accepted → ⊥) →
    reply_reading telegram ≡ unread (reply_reading telegram).answer.receipt
