-- The terms of demand 3.
-- Assumes nothing.
use Rattle.std.specs.Prelude.{ℕ, zero, suc, ◌+◌, ◌-◌, ◌<◌, ◌≡◌, Bool, true, false, ◌&&◌, leb, length, get_or}
use mathlib.Core.List.{List, [], ◌∷◌, ◌++◌, map, tail, reverse}
use Rattle.mop_registers.specs.Rows.{place_of}
use Rattle.mop_block.specs.Block.{stations, around, first}
use Rattle.mop_header.specs.Header.{Head, body_of}
use Rattle.mop_reader.specs.Reading.{Reading, sound, faulty, reading}
use Rattle.mop_header.specs.declared.Function.{Function}
use Rattle.mop_header.specs.declared.Function.TheVariants.{Request, Reply}
use Rattle.mop_reader.specs.declared.Reader.TheVariants.{Station}
use Rattle.mop_body.specs.Body.{write_start, values_of}
use Rattle.mop_station.specs.Station.{Handled, sent, not_mine, refuses}

-- m, of a telegram without a fault in its header: the number of stations that its block names
abbrev pub m : Head → ℕ
m h = length (stations h.block)

-- "fresh", of a telegram without a fault in its header: a request whose block begins with a station and ends with a 00
pub record Fresh (h : Head) : Type 0 where
  pub request : h.function ≡ Request
  pub first_named : first h.block ≡ 0 → ⊥
  pub last_zero : get_or h.block (length h.block - 1) 0 ≡ 0

-- the first station of a list that a 00 follows at once
unfoldable pub before_zero : List ℕ → ℕ
before_zero [] = 0
before_zero (x ∷ []) = 0
before_zero (zero ∷ y ∷ b) = before_zero (y ∷ b)
before_zero (suc a ∷ zero ∷ b) = suc a
before_zero (suc a ∷ suc c ∷ b) = before_zero (suc c ∷ b)

-- going around the ring, the station before the block's 00s
abbrev pub before_zeros : List ℕ → ℕ
before_zeros b = before_zero (around b)

-- what is read off a transmission: request or reply, the first block entry, and the body
pub data Shown : Type 0 where
  shows : Function → ℕ → List ℕ → Shown
  unreadable : Shown

abbrev pub shown_in : Reading → List ℕ → Shown
shown_in (sound h) tg = shows h.function (first h.block) (body_of h tg)
shown_in (faulty k) tg = unreadable

abbrev pub shown : List ℕ → Shown
shown tg = shown_in (reading Station tg) tg

-- out in order and back in reverse: requests with stations 1 to m first, then replies with stations m - 1 down to 1 first, and
-- at last one with 00 first
abbrev pub there_and_back : List ℕ → List ℕ → List ℕ → List Shown
there_and_back route body reply =
    map (λ (a : ℕ). shows Request a body) route ++ map (λ (a : ℕ). shows Reply a reply) (tail (reverse route) ++ (0 ∷ []))

-- a table with values written to a run: they stand there in order from the start on, and all others are as before
pub record Written (start : ℕ) (values before after : List ℕ) : Type 0 where
  pub holds : (i : ℕ) → i < length values → get_or after (place_of (start + i)) 0 ≡ get_or values i 0
  pub keeps : (j : ℕ) → ((i : ℕ) → i < length values → j ≡ place_of (start + i) → ⊥) → get_or after j 0 ≡ get_or before j 0
  pub long : length after ≡ length before

-- the table of a destination that carried out a body
abbrev pub WrittenBy : List ℕ → List ℕ → List ℕ → Type 0
WrittenBy body before after = Written (write_start body) (values_of body) before after

-- the destination of a fresh request: the last, in block order, of its m stations
abbrev pub destination : Head → ℕ
destination h = get_or (stations h.block) (m h - 1) 0

-- what a called station may give in the journey of a telegram without a fault in its header: it sends, or refuses with 7 to 10
abbrev pub ordinary : Handled → Bool
ordinary (sent n) = true
ordinary not_mine = false
ordinary (refuses k) = leb 7 k && leb k 10

abbrev pub all_ordinary : List Handled → Bool
all_ordinary [] = true
all_ordinary (a ∷ rest) = ordinary a && all_ordinary rest

-- the answers by which a telegram was sent
abbrev pub sent_only : List Handled → List Handled
sent_only [] = []
sent_only (sent n ∷ rest) = sent n ∷ sent_only rest
sent_only (not_mine ∷ rest) = sent_only rest
sent_only (refuses k ∷ rest) = sent_only rest

-- the last of some telegrams
unfoldable pub last_telegram : List (List ℕ) → List ℕ
last_telegram [] = []
last_telegram (tg ∷ []) = tg
last_telegram (tg ∷ next ∷ rest) = last_telegram (next ∷ rest)

-- whether telegrams are without a fault in their headers
abbrev pub is_fine : Reading → Bool
is_fine (sound h) = true
is_fine (faulty k) = false

abbrev pub all_fine : List (List ℕ) → Bool
all_fine [] = true
all_fine (tg ∷ rest) = is_fine (reading Station tg) && all_fine rest
