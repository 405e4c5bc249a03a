-- What a dry run shows of a net: its stations, and no register but of the telegram's destination.
-- Assumes nothing.
use Rattle.std.specs.Prelude.{◌≡◌, false, List, ℕ, Result, length, take}
use Rattle.refusal.specs.declared.Refusal.{Refusal}
use Rattle.mop_block.specs.Block.{has}
use Rattle.mop_header.specs.Header.{Head}
use Rattle.mop_reader.specs.Reading.{sound, reading}
use Rattle.mop_header.specs.declared.Function.TheVariants.{Reply}
use Rattle.mop_reader.specs.declared.Reader.TheVariants.{Station}
use Rattle.net_journey.specs.Terms.{m, before_zeros}
use Rattle.net_hop.specs.Tables.{net_of}
use Rattle.net_dry_run.specs.DryRun.{Outcome, played, outright, outcome_of, DryRun, dry_run_of, run_output, dry_run}
use Rattle.net_dry_run.specs.declared.Played.{Played}
use Rattle.net_isolation.specs.Journeys.{SameAtDestination}

-- the telegram is played, and not refused outright
abbrev pub IsPlayed : Outcome → Type 0
IsPlayed (played count e n) = Unit
IsPlayed (outright k) = ⊥

-- two lists hold the same in their first n places
pub record SameFirst (n : ℕ) (xs ys : List ℕ) : Type 0 where
  pub same : take n xs ≡ take n ys

-- two outputs hold the same in the places that a dry run fills: the last telegram, and 0 behind it
abbrev pub SameFilled : List ℕ → List ℕ → Type 0
SameFilled left left' = SameFirst run_output left left'

-- all that two runs show is the same: the outcome, which is the count, the ending with its number and the length of the last
-- telegram, or the number of an outright refusal; and, where they are played, what they fill of the output. The tables that they
-- leave are no part of it
pub record SameRun (r s : DryRun) : Type 0 where
  pub outcome : r.outcome ≡ s.outcome
  pub filled : IsPlayed r.outcome → SameFilled r.output s.output

-- tables and outputs of two calls, alike in nothing but their lengths
pub record SameLengths (tables tables' out out' : List ℕ) : Type 0 where
  pub of_tables : length tables ≡ length tables'
  pub of_outputs : length out ≡ length out'

-- two calls with the same telegram and addresses, between which only the registers of others than the destination differ, and what
-- the outputs hold: where the telegram is played, its destination has the same table in both nets
pub record OnlyOthersDiffer (tg addresses tables tables' out out' : List ℕ) : Type 0 where
  pub lengths : SameLengths tables tables' out out'
  pub destination : IsPlayed (dry_run tg addresses tables out).outcome → SameAtDestination tg (net_of addresses tables) (net_of addresses tables')

-- the statement: such calls have the same run. Both are then played, or both are refused
abbrev pub Isolated : Type 0
Isolated =
    (tg addresses tables tables' out out' : List ℕ) → OnlyOthersDiffer tg addresses tables tables' out out' →
    SameRun (dry_run tg addresses tables out) (dry_run tg addresses tables' out')

-- it asks nothing of any register where the call is refused outright, with whatever number
abbrev pub RefusedIsolated : Type 0
RefusedIsolated =
    (tg addresses tables tables' out out' : List ℕ) → SameLengths tables tables' out out' → (k : ℕ) → (dry_run tg addresses tables out).outcome ≡ outright k →
    SameRun (dry_run tg addresses tables out) (dry_run tg addresses tables' out')

-- a telegram has the same run in the net of these addresses, whatever the tables and the outputs hold
abbrev pub AllMayDiffer : List ℕ → List ℕ → Type 0
AllMayDiffer tg addresses =
    (tables tables' out out' : List ℕ) → SameLengths tables tables' out out' →
    SameRun (dry_run tg addresses tables out) (dry_run tg addresses tables' out')

-- so it is of one that names nobody, of one whose destination is not there, and of a reply
abbrev pub NobodyIsolated : Type 0
NobodyIsolated = (tg addresses : List ℕ) (h : Head) → reading Station tg ≡ sound h → m h ≡ 0 → AllMayDiffer tg addresses

abbrev pub MissingIsolated : Type 0
MissingIsolated = (tg addresses : List ℕ) (h : Head) → reading Station tg ≡ sound h → has (before_zeros h.block) addresses ≡ false → AllMayDiffer tg addresses

abbrev pub RepliesIsolated : Type 0
RepliesIsolated = (tg addresses : List ℕ) (h : Head) → reading Station tg ≡ sound h → h.function ≡ Reply → AllMayDiffer tg addresses

-- a call of `dry_run` keeps its promise: r is its answer, and after and left are the tables and the output as it leaves them
abbrev pub KeepsPromise : List ℕ → List ℕ → List ℕ → List ℕ → Result Played Refusal → List ℕ → List ℕ → Type 0
KeepsPromise tg addresses tables out r after left = dry_run_of r after left ≡ dry_run tg addresses tables out

-- what two calls show is the same: the answer itself, and what they fill of the output
pub record SameAnswer (r s : Result Played Refusal) (left left' : List ℕ) : Type 0 where
  pub answer : r ≡ s
  pub filled : IsPlayed (outcome_of r) → SameFilled left left'

-- the statement of the code: so it is of two calls that have the same run by any of these statements
abbrev pub CallsSame : Type 0
CallsSame =
    (tg addresses tables tables' out out' : List ℕ) → SameRun (dry_run tg addresses tables out) (dry_run tg addresses tables' out') →
    (r s : Result Played Refusal) (after left after' left' : List ℕ) →
    KeepsPromise tg addresses tables out r after left → KeepsPromise tg addresses tables' out' s after' left' → SameAnswer r s left left'

-- and so of two calls between which only the registers of others than the destination differ
abbrev pub CallsIsolated : Type 0
CallsIsolated =
    (tg addresses tables tables' out out' : List ℕ) → OnlyOthersDiffer tg addresses tables tables' out out' →
    (r s : Result Played Refusal) (after left after' left' : List ℕ) →
    KeepsPromise tg addresses tables out r after left → KeepsPromise tg addresses tables' out' s after' left' → SameAnswer r s left left'
