-- The worked cases of isolation: one telegram in two nets with the same stations.
-- Assumes nothing.
use Rattle.std.specs.Prelude.{◌≡◌, List, [], ◌∷◌, ◌++◌, ℕ, length, take, replicate}
use Rattle.mop_registers.specs.Rows.{table_length, factory}
use Rattle.net_journey.specs.Journey.{Ending, at_zero, at_nobody, refused_with}
use Rattle.net_dry_run.specs.DryRun.{played, outright, DryRun, run_output, padded, dry_run}
use Rattle.net_isolation.specs.Isolated.{SameRun, AllMayDiffer}

-- the dry run in one net, with an output of 0s, and in the other, with one of 1s
abbrev pub in_one : List ℕ → List ℕ → List ℕ → DryRun
in_one tg addresses tables = dry_run tg addresses tables (replicate 1024 0)

abbrev pub in_other : List ℕ → List ℕ → List ℕ → DryRun
in_other tg addresses tables = dry_run tg addresses tables (replicate 1024 1)

-- what a run shows: so many transmissions, this ending, and this last telegram
pub record Shows (r : DryRun) (count : ℕ) (e : Ending) (last : List ℕ) : Type 0 where
  pub outcome : r.outcome ≡ played count e (length last)
  pub filled : take run_output r.output ≡ padded last

-- both runs are the same, and show this
pub record Alike (tg addresses tables other : List ℕ) (count : ℕ) (e : Ending) (last : List ℕ) : Type 0 where
  pub same : SameRun (in_one tg addresses tables) (in_other tg addresses other)
  pub one : Shows (in_one tg addresses tables) count e last
  pub two : Shows (in_other tg addresses other) count e last

-- both runs are the same, and refused outright with this number
pub record BothRefused (tg addresses tables other : List ℕ) (k : ℕ) : Type 0 where
  pub same : SameRun (in_one tg addresses tables) (in_other tg addresses other)
  pub one : (in_one tg addresses tables).outcome ≡ outright k
  pub two : (in_other tg addresses other).outcome ≡ outright k

-- the runs differ: the same count and ending, and another last telegram. So for this telegram not all registers may differ
pub record Unlike (tg addresses tables other : List ℕ) (count : ℕ) (e : Ending) (last otherLast : List ℕ) : Type 0 where
  pub one : Shows (in_one tg addresses tables) count e last
  pub two : Shows (in_other tg addresses other) count e otherLast
  pub differ : SameRun (in_one tg addresses tables) (in_other tg addresses other) → ⊥
  pub needed : AllMayDiffer tg addresses → ⊥

pub data IsolationCase : Type 0 where
  -- the addresses of stations, their tables in the one net and in the other, a telegram, and what both runs show
  alike : List ℕ → List ℕ → List ℕ → List ℕ → ℕ → Ending → List ℕ → IsolationCase
  -- the number that both are refused with outright
  both_refused : List ℕ → List ℕ → List ℕ → List ℕ → ℕ → IsolationCase
  -- what both show, with the last telegram in the one net and in the other
  unlike : List ℕ → List ℕ → List ℕ → List ℕ → ℕ → Ending → List ℕ → List ℕ → IsolationCase

abbrev pub IsolationHolds : IsolationCase → Type 0
IsolationHolds (alike addresses tables other tg count e last) = Alike tg addresses tables other count e last
IsolationHolds (both_refused addresses tables other tg k) = BothRefused tg addresses tables other k
IsolationHolds (unlike addresses tables other tg count e last otherLast) = Unlike tg addresses tables other count e last otherLast

-- a table in which no register has its factory value
abbrev pub sevens : List ℕ
sevens = replicate table_length 7

abbrev pub isolation_cases : List IsolationCase
isolation_cases =
    -- a request to 55 that is on its way from 12 to 13, with other tables at 12 and 13
    alike (0x12 ∷ 0x13 ∷ 0x55 ∷ []) (factory ++ (factory ++ factory)) (sevens ++ (sevens ++ factory))
    (0x60 ∷ 0xFF ∷ 0x13 ∷ 0x55 ∷ 0x00 ∷ 0x12 ∷ 0x03 ∷ 0xBE ∷ 0x01 ∷ 0x01 ∷ 0x2C ∷ 0x01 ∷ 0x00 ∷ 0x01 ∷ [])
    5 at_zero (0xE0 ∷ 0xFF ∷ 0x00 ∷ 0x12 ∷ 0x13 ∷ 0x55 ∷ 0x03 ∷ 0xBE ∷ 0x01 ∷ 0x00 ∷ 0x1E ∷ [])
    -- the premise is needed, and the table of the first entry is not enough: with another table at 55 alone, the reply shows it
    ∷ unlike (0x12 ∷ 0x13 ∷ 0x55 ∷ []) (factory ++ (factory ++ factory)) (factory ++ (factory ++ sevens))
    (0x60 ∷ 0xFF ∷ 0x13 ∷ 0x55 ∷ 0x00 ∷ 0x12 ∷ 0x03 ∷ 0xBE ∷ 0x01 ∷ 0x01 ∷ 0x2C ∷ 0x01 ∷ 0x00 ∷ 0x01 ∷ [])
    5 at_zero (0xE0 ∷ 0xFF ∷ 0x00 ∷ 0x12 ∷ 0x13 ∷ 0x55 ∷ 0x03 ∷ 0xBE ∷ 0x01 ∷ 0x00 ∷ 0x1E ∷ [])
    (0xE0 ∷ 0xFF ∷ 0x00 ∷ 0x12 ∷ 0x13 ∷ 0x55 ∷ 0x03 ∷ 0xBE ∷ 0x01 ∷ 0x00 ∷ 0x07 ∷ [])
    -- a reply on its way, with all tables different
    ∷ alike (0x12 ∷ 0x13 ∷ 0x55 ∷ []) (factory ++ (factory ++ factory)) (sevens ++ (sevens ++ sevens))
    (0xE0 ∷ 0xFF ∷ 0x13 ∷ 0x55 ∷ 0x00 ∷ 0x12 ∷ 0x03 ∷ 0xBE ∷ 0x01 ∷ 0x00 ∷ 0x1E ∷ [])
    3 at_zero (0xE0 ∷ 0xFF ∷ 0x00 ∷ 0x12 ∷ 0x13 ∷ 0x55 ∷ 0x03 ∷ 0xBE ∷ 0x01 ∷ 0x00 ∷ 0x1E ∷ [])
    -- a destination that is not there, and a relay that is not there, with all tables different and with those of the relays
    ∷ alike (0x12 ∷ 0x13 ∷ []) (factory ++ factory) (sevens ++ sevens)
    (0x60 ∷ 0xFF ∷ 0x12 ∷ 0x13 ∷ 0x55 ∷ 0x00 ∷ 0x03 ∷ 0xBE ∷ 0x01 ∷ 0x01 ∷ 0x2C ∷ 0x01 ∷ 0x00 ∷ 0x01 ∷ [])
    3 at_nobody (0x60 ∷ 0xFF ∷ 0x55 ∷ 0x00 ∷ 0x12 ∷ 0x13 ∷ 0x03 ∷ 0xBE ∷ 0x01 ∷ 0x01 ∷ 0x2C ∷ 0x01 ∷ 0x00 ∷ 0x01 ∷ [])
    ∷ alike (0x12 ∷ 0x55 ∷ []) (factory ++ factory) (sevens ++ factory)
    (0x60 ∷ 0xFF ∷ 0x12 ∷ 0x13 ∷ 0x55 ∷ 0x00 ∷ 0x03 ∷ 0xBE ∷ 0x01 ∷ 0x01 ∷ 0x2C ∷ 0x01 ∷ 0x00 ∷ 0x01 ∷ [])
    2 at_nobody (0x60 ∷ 0xFF ∷ 0x13 ∷ 0x55 ∷ 0x00 ∷ 0x12 ∷ 0x03 ∷ 0xBE ∷ 0x01 ∷ 0x01 ∷ 0x2C ∷ 0x01 ∷ 0x00 ∷ 0x01 ∷ [])
    -- a refusal of the destination, with other tables at the relays
    ∷ alike (0x12 ∷ 0x13 ∷ 0x55 ∷ []) (factory ++ (factory ++ factory)) (sevens ++ (sevens ++ factory))
    (0x60 ∷ 0xFF ∷ 0x12 ∷ 0x13 ∷ 0x55 ∷ 0x00 ∷ 0x03 ∷ 0xB9 ∷ 0x02 ∷ 0x00 ∷ 0x00 ∷ 0x00 ∷ [])
    3 (refused_with 8) (0x60 ∷ 0xFF ∷ 0x55 ∷ 0x00 ∷ 0x12 ∷ 0x13 ∷ 0x03 ∷ 0xB9 ∷ 0x02 ∷ 0x00 ∷ 0x00 ∷ 0x00 ∷ [])
    -- a block that names nobody, and one that breaks its rule, with all tables different
    ∷ alike (0x12 ∷ 0x13 ∷ 0x55 ∷ []) (factory ++ (factory ++ factory)) (sevens ++ (sevens ++ sevens))
    (0x60 ∷ 0xFF ∷ 0x00 ∷ 0x00 ∷ 0x00 ∷ 0x00 ∷ 0x03 ∷ 0xBE ∷ 0x01 ∷ 0x01 ∷ 0x2C ∷ 0x01 ∷ 0x00 ∷ 0x01 ∷ [])
    1 at_zero (0x60 ∷ 0xFF ∷ 0x00 ∷ 0x00 ∷ 0x00 ∷ 0x00 ∷ 0x03 ∷ 0xBE ∷ 0x01 ∷ 0x01 ∷ 0x2C ∷ 0x01 ∷ 0x00 ∷ 0x01 ∷ [])
    ∷ both_refused (0x12 ∷ 0x13 ∷ 0x55 ∷ []) (factory ++ (factory ++ factory)) (sevens ++ (sevens ++ sevens))
    (0x60 ∷ 0xFF ∷ 0x12 ∷ 0x12 ∷ 0x55 ∷ 0x00 ∷ []) 5
    ∷ []
