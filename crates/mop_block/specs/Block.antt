-- The block of a telegram: entries in a ring, 00s and the addresses of stations.
-- Assumes nothing.
use Rattle.std.specs.Prelude.{ℕ, zero, suc, ◌-◌, Bool, true, false, not, ◌&&◌, ◌||◌, List, [], ◌∷◌, ◌++◌, eqb, leb, length, get_or, take, drop}

-- an address: 01 to F0
unfoldable pub is_address : ℕ → Bool
is_address a = leb 1 a && leb a 0xF0

-- whether a list has an entry
unfoldable pub has : ℕ → List ℕ → Bool
has a [] = false
has a (x ∷ xs) = eqb a x || has a xs

-- every one is an address, and no two are equal
unfoldable pub distinct_addresses : List ℕ → Bool
distinct_addresses [] = true
distinct_addresses (a ∷ rest) = is_address a && not (has a rest) && distinct_addresses rest

-- the stations that a block names, m of them: its entries that are not 00, in order
unfoldable pub stations : List ℕ → List ℕ
stations [] = []
stations (zero ∷ b) = stations b
stations (suc a ∷ b) = suc a ∷ stations b

-- how often 00s end: an entry 00 is followed at once by one that is not 00
unfoldable pub zero_ends : List ℕ → ℕ
zero_ends [] = 0
zero_ends (x ∷ []) = 0
zero_ends (zero ∷ zero ∷ b) = zero_ends (zero ∷ b)
zero_ends (zero ∷ suc a ∷ b) = suc (zero_ends (suc a ∷ b))
zero_ends (suc a ∷ y ∷ b) = zero_ends (y ∷ b)

-- once around the ring: behind the last entry comes the first
unfoldable pub around : List ℕ → List ℕ
around b = b ++ take 1 b

-- the block rule: it has a 00; going around, the 00s end once at most, so that they are one run in the ring; and its stations
-- are different addresses
unfoldable pub good_block : List ℕ → Bool
good_block b = has 0 b && leb (zero_ends (around b)) 1 && distinct_addresses (stations b)

-- the first entry, and the next one
unfoldable pub first : List ℕ → ℕ
first b = get_or b 0 0

unfoldable pub next : List ℕ → ℕ
next b = get_or b 1 0

-- rolled so many places to the left: the first entries go to the end
unfoldable pub rolled : ℕ → List ℕ → List ℕ
rolled k b = drop k b ++ take k b

-- one place to the left, and one to the right, where the last entry comes to the front
unfoldable pub roll_left : List ℕ → List ℕ
roll_left b = rolled 1 b

unfoldable pub roll_right : List ℕ → List ℕ
roll_right b = rolled (length b - 1) b
