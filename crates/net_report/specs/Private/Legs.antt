-- A leg of a journey that is told: what is left of the text gives the whole. Only private contracts cite this.
-- Assumes nothing.
use Rattle.std.specs.Prelude.{ℕ, ◌+◌, ◌*◌, ◌-◌, ◌≤◌, ◌≡◌, List, ◌++◌, length, take}
use Rattle.std.specs.ControlFlow.{MatchControlFlow}
use Rattle.std.specs.declared.ops.ControlFlow.{ControlFlow}
use Rattle.base.specs.Filling.{filled}
use Rattle.base.specs.Private.Writing.{Writing, writing}
use Rattle.mop_header.specs.Header.{Head, head_of, telegram_of}
use Rattle.mop_header.specs.declared.Function.{Function}
use Rattle.mop_header.specs.declared.Function.TheVariants.{Request, Reply}
use Rattle.net_journey.specs.Net.{Net}
use Rattle.net_journey.specs.Journey.{Course}
use Rattle.net_journey.specs.Bounded.{playing, most_transmissions}
use Rattle.net_hop.specs.Tables.{net_of, tables_of}
use Rattle.net_hop.specs.Hop.{places_of}
use Rattle.net_hop.specs.Private.Ways.{OnItsWay}
use Rattle.net_report.specs.Text.{lines, closing}
use Rattle.net_report.specs.Report.{Report, leaves, report_output}
use Rattle.net_report.specs.declared.Turn.{Turn}

-- the most characters of a line
abbrev pub most_characters : ℕ
most_characters = 102

-- the text of what is left of a journey, with so many transmissions told
abbrev pub rest_text : ℕ → Course → List ℕ
rest_text told c = lines (told + 1) c.transmissions ++ closing (told + length c.transmissions) c.ending

-- a report that ends where a text does
abbrev pub ends_with : Writing → List ℕ → Report
ends_with w tables = leaves (filled w.at) tables w.output

-- what it comes to, from a place of the output on
abbrev pub telling : ℕ → ℕ → List ℕ → Course → Report
telling told at out c = ends_with (writing at (rest_text told c) out) (tables_of c.after)

-- from a telegram with this header and this body on
abbrev pub telling_from : ℕ → ℕ → List ℕ → Net → Head → List ℕ → Report
telling_from told at out net h body = telling told at out (playing (most_transmissions - told) net (telegram_of h body))

-- the report x with so many transmissions told, before the telegram of h and body
pub record ToldSoFar (x : Report) (addresses tables : List ℕ) (told at : ℕ) (out : List ℕ) (h : Head) (body : List ℕ) : Type 0 where
  pub way : OnItsWay addresses (places_of addresses) tables told h body
  pub room : at ≤ most_characters * told
  pub whole : telling_from told at out (net_of addresses tables) h body ≡ x

-- where a leg that began with a request or a reply came to: to the end of the report x; or to its destination, and the body of the
-- reply is the first places of the buffer
abbrev pub LegBy : Report → List ℕ → Function → List ℕ → List ℕ → List ℕ → List ℕ → ControlFlow ℕ Turn → Type 0
LegBy x addresses began block after buffer out r =
    MatchControlFlow r
    (λ t. (t.length ≤ length buffer) × (began ≡ Request) × (t.header.function ≡ Reply)
    × ToldSoFar x addresses after t.told t.place out (head_of t.header block) (take t.length buffer))
    (λ end. (leaves (filled end) after out ≡ x) × (end ≤ report_output))
