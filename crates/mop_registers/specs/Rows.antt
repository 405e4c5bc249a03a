-- The registers of a station: the table of their rows, and what each row says of a register.
-- Assumes nothing.
use Rattle.std.specs.Prelude.{ℕ, suc, ◌<◌, ◌≡◌, Bool, true, false, ◌&&◌, ◌||◌, List, [], ◌∷◌, map, eqb, ltb, leb, length, get_or, drop}
use Rattle.base.specs.Choice.{pick}
use Rattle.base.specs.Words.{word, high_byte, low_byte}

-- a register: its number, whether it takes writes, the values that it takes, and the value that it leaves the factory with
pub record Row : Type 0 where
  pub number : ℕ
  pub write : Bool
  pub range : ℕ → Bool
  pub factory : ℕ

abbrev pub row : ℕ → Bool → (ℕ → Bool) → ℕ → Row
row n w r f = record { number = n; write = w; range = r; factory = f }

-- the column "write"
abbrev pub yes : Bool
yes = true

abbrev pub no : Bool
no = false

-- ranges: any value; from a least to a largest; a time of day; one of these, or 65535
abbrev pub any : ℕ → Bool
any v = true

abbrev pub from_to : ℕ → ℕ → ℕ → Bool
from_to least most v = leb least v && leb v most

-- a time of day: its hour, 0 to 23, is the high byte of the value, and its minute, 0 to 59, the low byte
abbrev pub time_of_day : ℕ → Bool
time_of_day v = leb (high_byte v) 23 && leb (low_byte v) 59

-- of two bytes the first is the hour, and the second the minute
abbrev pub TimeBytes : Type 0
TimeBytes = (hour minute : ℕ) → minute < 256 → time_of_day (word hour minute) ≡ (leb hour 23 && leb minute 59)

abbrev pub or65535 : (ℕ → Bool) → ℕ → Bool
or65535 range v = range v || eqb v 65535

-- the table, in the order of the numbers
abbrev pub rows : List Row
rows =
    row 2 no any 0
    ∷ row 300 yes (from_to 0 3) 0
    ∷ row 931 no any 0
    ∷ row 932 no any 0
    ∷ row 933 no any 0
    ∷ row 934 no any 0
    ∷ row 935 no any 0
    ∷ row 936 no any 0
    ∷ row 952 yes (from_to 1 1440) 15
    ∷ row 953 yes (from_to 2 25) 2
    ∷ row 955 yes time_of_day 0
    ∷ row 956 yes (from_to 0 59) 0
    ∷ row 957 yes (or65535 time_of_day) 65535
    ∷ row 958 yes (from_to 1 1440) 30
    ∷ row 959 yes (or65535 (from_to 1 3600)) 60
    ∷ row 960 yes (from_to 1 1440) 15
    ∷ row 961 yes (from_to 1 1440) 30
    ∷ row 962 yes (from_to 0 1) 0
    ∷ []

-- the number of rows, which is the length of a station's table of values
unfoldable pub table_length : ℕ
table_length = length rows

-- how many rows stand before that of a number; all of them where it has none
abbrev pub rows_before : ℕ → List Row → ℕ
rows_before n [] = 0
rows_before n (r ∷ rs) = pick (eqb n r.number) 0 (suc (rows_before n rs))

-- the place of a register's value in the table of values
unfoldable pub place_of : ℕ → ℕ
place_of n = rows_before n rows

-- a register exists if a row has its number
unfoldable pub exists : ℕ → Bool
exists n = ltb (place_of n) table_length

-- what the row at a place says, of a write and of a value; without a row nothing is taken
abbrev pub write_of : List Row → Bool
write_of [] = false
write_of (r ∷ rs) = r.write

abbrev pub range_of : List Row → ℕ → Bool
range_of [] v = false
range_of (r ∷ rs) v = r.range v

-- whether a register takes writes
unfoldable pub may_write : ℕ → Bool
may_write n = write_of (drop (place_of n) rows)

-- whether a value is in a register's range
unfoldable pub takes : ℕ → ℕ → Bool
takes n v = range_of (drop (place_of n) rows) v

-- a table of values as it leaves the factory
unfoldable pub factory : List ℕ
factory = map (λ r. r.factory) rows

-- each factory value is in the range of its register
abbrev pub FactoryInRange : Type 0
FactoryInRange = (n : ℕ) → exists n ≡ true → takes n (get_or factory (place_of n) 0) ≡ true
