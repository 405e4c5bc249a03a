-- The transmissions of an accepted request, byte for byte.
-- Assumes nothing.
use Rattle.std.specs.Prelude.{ℕ, zero, suc, ◌-◌, ◌≡◌, true, List, [], ◌∷◌, ◌++◌, map}
use Rattle.mop_block.specs.Block.{stations, roll_left, roll_right}
use Rattle.mop_header.specs.Header.{Head, head, telegram_of, body_of, remarked, new_control}
use Rattle.mop_reader.specs.Reading.{sound, reading}
use Rattle.mop_header.specs.declared.Function.TheVariants.{Request, Reply}
use Rattle.mop_reader.specs.declared.Reader.TheVariants.{Station}
use Rattle.mop_step.specs.Body.{accepts, judged_body, reply_body}
use Rattle.net_journey.specs.Net.{Net, good_net, all_there, table_at}
use Rattle.net_journey.specs.Journey.{Course, Journey}
use Rattle.net_journey.specs.Terms.{m, Fresh, destination}

-- the blocks of so many requests on the way out, each rolled one place further left
abbrev pub outward : ℕ → List ℕ → List (List ℕ)
outward zero b = []
outward (suc k) b = b ∷ outward k (roll_left b)

-- the block after so many relays
abbrev pub relayed_block : ℕ → List ℕ → List ℕ
relayed_block zero b = b
relayed_block (suc k) b = relayed_block k (roll_left b)

-- the blocks of so many replies on the way back, from the block that reached the destination, each rolled one place further right
abbrev pub homeward : ℕ → List ℕ → List (List ℕ)
homeward zero b = []
homeward (suc k) b = roll_right b ∷ homeward k (roll_right b)

-- a request on its way keeps control byte and form; a reply has a new control byte, and the mark that its block asks for
abbrev pub request_on : Head → List ℕ → List ℕ → List ℕ
request_on h body b = telegram_of (head Request h.control h.form b) body

abbrev pub reply_on : Head → List ℕ → List ℕ → List ℕ
reply_on h reply b = telegram_of (remarked (head Reply new_control h.form b)) reply

-- m requests and m replies
abbrev pub all_telegrams : Head → List ℕ → List ℕ → List (List ℕ)
all_telegrams h body reply =
    map (request_on h body) (outward (m h) h.block) ++ map (reply_on h reply) (homeward (m h) (relayed_block (m h - 1) h.block))

abbrev pub ByteForByte : Type 0
ByteForByte =
    (net : Net) (tg : List ℕ) (c : Course) → good_net net ≡ true → Journey net tg c →
    (h : Head) → reading Station tg ≡ sound h → Fresh h → all_there (stations h.block) net ≡ true → judged_body (body_of h tg) ≡ accepts →
    c.transmissions ≡ all_telegrams h (body_of h tg) (reply_body (body_of h tg) (table_at (destination h) c.after))
