-- The centre's request: the route that it goes by, and its telegram.
-- Assumes nothing.
use Rattle.std.specs.Prelude.{ℕ, ◌-◌, ◌≤◌, ◌≡◌, Bool, not, ◌&&◌, ◌||◌, List, [], ◌∷◌, ◌++◌, ltb, leb, length}
use Rattle.base.specs.Choice.{pick}
use Rattle.base.specs.Filling.{filled, Filling, denied, fitted}
use Rattle.mop_block.specs.Block.{distinct_addresses}
use Rattle.mop_block.specs.Zipper.{zeros}
use Rattle.mop_header.specs.Header.{Head, head, telegram_of, new_control}
use Rattle.mop_header.specs.declared.Function.TheVariants.{Request}
use Rattle.mop_header.specs.declared.Form.TheVariants.{Standard, Extended}
use Rattle.mop_body.specs.Body.{request_body}

-- the most stations of a route
abbrev pub max_route : ℕ
max_route = 31

-- "route": the relays in order, and the destination last. It has at least one station and no more than 31, all of them different
-- addresses
unfoldable pub good_route : List ℕ → Bool
good_route route = leb 1 (length route) && leb (length route) max_route && distinct_addresses route

-- three stations and fewer have room in a standard block, and 00s stand behind them; for more the header is extended, and a single
-- 00 stands behind them
unfoldable pub request_head : List ℕ → Head
request_head route =
    pick (leb (length route) 3)
    (head Request new_control Standard (route ++ zeros (4 - length route)))
    (head Request new_control (Extended 0xEF) (route ++ (0 ∷ [])))

-- the telegram of a request
unfoldable pub request_telegram : List ℕ → ℕ → ℕ → ℕ → List ℕ → List ℕ
request_telegram route rStart rCount wStart values = telegram_of (request_head route) (request_body rStart rCount wStart values)

-- the most registers of a run, whose count is one byte
abbrev pub max_run : ℕ
max_run = 255

-- the call, with an output: 5 for the route, 12 for a run, 11, or the telegram is written
unfoldable pub requesting : List ℕ → ℕ → ℕ → ℕ → List ℕ → List ℕ → Filling
requesting route rStart rCount wStart values out =
    pick (not (good_route route)) (denied 5 out)
    (pick (ltb max_run rCount || ltb max_run (length values)) (denied 12 out)
    (fitted (request_telegram route rStart rCount wStart values) out))

-- the most bytes of a request: a header of 39, 6, and 510 for 255 values
abbrev pub max_request : ℕ
max_request = 555

-- no request that is written is longer
abbrev pub RequestBound : Type 0
RequestBound =
    (route : List ℕ) (rStart rCount wStart : ℕ) (values out : List ℕ) (n : ℕ) →
    (requesting route rStart rCount wStart values out).given ≡ filled n → n ≤ max_request
