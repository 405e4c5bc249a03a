-- A good block that begins with a station, taken apart: the stations ahead, the 00s, and the stations passed. Read around
-- the ring from the 00s on, the passed ones come first and the ones ahead after them; the last of these is the destination.
-- Assumes nothing.
use Rattle.std.specs.Prelude.{ℕ, suc, ◌+◌, ◌≤◌, ◌≡◌, Bool, true, false, List, [], ◌∷◌, ◌++◌, eqb, replicate}
use Rattle.mop_block.specs.Block.{is_address, good_block, first, roll_left, roll_right}

abbrev pub zeros : ℕ → List ℕ
zeros n = replicate n 0

-- the block with these stations ahead, 00s (one more than z), and these stations passed
abbrev pub spread : List ℕ → ℕ → List ℕ → List ℕ
spread ahead z passed = ahead ++ (0 ∷ (zeros z ++ passed))

-- the block with a 00 first, as it is back at the centre: the stations, and 00s up to the end
abbrev pub returned : List ℕ → ℕ → List ℕ
returned ahead z = 0 ∷ (ahead ++ zeros z)

-- a list without a 00
pub data Full : List ℕ → Type 0 where
  nil : Full []
  cons : {a : ℕ} {xs : List ℕ} → Full xs → Full (suc a ∷ xs)

-- a test counted: 1 where it holds, else 0
abbrev pub one : Bool → ℕ
one true = 1
one false = 0

-- how often a number stands in a list
abbrev pub count : ℕ → List ℕ → ℕ
count a [] = 0
count a (x ∷ xs) = one (eqb a x) + count a xs

-- every station is an address and stands there once at most, in whatever order
abbrev pub Once : List ℕ → Type 0
Once b = (a : ℕ) → count (suc a) b ≤ one (is_address (suc a))

-- the view of a block: the station that is first, the others still ahead, the 00s, of which there is one more than gap, and
-- the stations passed
pub record Zipper (b : List ℕ) : Type 0 where
  pub here : ℕ
  pub ahead : List ℕ
  pub gap : ℕ
  pub passed : List ℕ
  pub is : b ≡ spread (suc here ∷ ahead) gap passed
  pub full_ahead : Full ahead
  pub full_passed : Full passed
  pub once : Once (passed ++ suc here ∷ ahead)

-- every good block that begins with a station has the view
abbrev pub HasView : Type 0
HasView = (b : List ℕ) → good_block b ≡ true → (first b ≡ 0 → ⊥) → Zipper b

-- and every block with such parts is good, also where no station is ahead, and where it is back at the centre
abbrev pub ViewIsGood : Type 0
ViewIsGood = (ahead : List ℕ) (z : ℕ) (passed : List ℕ) → Full ahead → Full passed → Once (passed ++ ahead) → good_block (spread ahead z passed) ≡ true

abbrev pub ReturnedIsGood : Type 0
ReturnedIsGood = (ahead : List ℕ) (z : ℕ) → Full ahead → Once ahead → good_block (returned ahead z) ≡ true

-- rolled left, the first station ahead becomes the last one passed
abbrev pub LeftMoves : Type 0
LeftMoves = (a : ℕ) (ahead : List ℕ) (z : ℕ) (passed : List ℕ) → roll_left (spread (a ∷ ahead) z passed) ≡ spread ahead z (passed ++ (a ∷ []))

-- rolled right, the last one passed becomes the first ahead; where none was passed, a 00 comes to the front
abbrev pub RightMoves : Type 0
RightMoves = (ahead : List ℕ) (z : ℕ) (passed : List ℕ) (a : ℕ) → roll_right (spread ahead z (passed ++ (a ∷ []))) ≡ spread (a ∷ ahead) z passed

abbrev pub RightReturns : Type 0
RightReturns = (ahead : List ℕ) (z : ℕ) → roll_right (spread ahead z []) ≡ returned ahead z
