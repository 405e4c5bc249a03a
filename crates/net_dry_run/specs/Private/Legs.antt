-- A leg of a journey: hop after hop, until it ends or the destination answers. Only private contracts cite this.
-- Assumes nothing.
use Rattle.std.specs.Prelude.{ℕ, ◌+◌, ◌-◌, ◌≤◌, ◌≡◌, true, List, length, take}
use Rattle.std.specs.ControlFlow.{MatchControlFlow}
use Rattle.mop_header.specs.Header.{Head, head_of, telegram_of}
use Rattle.mop_header.specs.declared.Header.{Header}
use Rattle.mop_header.specs.declared.Function.TheVariants.{Request, Reply}
use Rattle.net_journey.specs.Net.{Net}
use Rattle.net_journey.specs.Journey.{Ending, Course}
use Rattle.net_journey.specs.Terms.{last_telegram}
use Rattle.net_journey.specs.Bounded.{playing, most_transmissions}
use Rattle.net_hop.specs.Tables.{net_of, tables_of, set_up}
use Rattle.net_hop.specs.Hop.{ending_of}
use Rattle.net_hop.specs.Private.Ways.{OnItsWay}
use Rattle.net_dry_run.specs.DryRun.{played, DryRun, leaves, run_output, padded}
use Rattle.net_dry_run.specs.declared.Leg.{Leg}
use Rattle.net_dry_run.specs.declared.Stop.{Stop}

-- what is looked at of a journey: the count, the last telegram, the ending and the net afterwards
pub record Summary : Type 0 where
  pub count : ℕ
  pub last : List ℕ
  pub ending : Ending
  pub net : Net

-- of a course before which so many transmissions were made
abbrev pub summary_of : ℕ → Course → Summary
summary_of gone c =
    record { count = gone + length c.transmissions; last = last_telegram c.transmissions; ending = c.ending; net = c.after }

-- of what is left of a journey, before which so many were made, from a telegram with this header and this body on
abbrev pub summary_from : ℕ → Net → Head → List ℕ → Summary
summary_from gone net h body = summary_of gone (playing (most_transmissions - gone) net (telegram_of h body))

-- where a leg that began with h and this body came to an end: of the journey
pub record LegEnds (addresses tables : List ℕ) (before : ℕ) (h : Head) (body after : List ℕ) (gone : ℕ) (g : Head) (e : Ending) : Type 0 where
  pub whole : summary_from before (net_of addresses tables) h body ≡ record { count = gone + 1; last = telegram_of g body; ending = e; net = net_of addresses after }
  pub fits : set_up addresses after ≡ true
  pub short : length (telegram_of g body) ≤ run_output
  pub most : gone ≤ most_transmissions

-- or of the way out, since the destination of the request answered
pub record LegTurns (addresses places tables : List ℕ) (before : ℕ) (h : Head) (body after : List ℕ) (gone : ℕ) (g : Head) (reply : List ℕ) : Type 0 where
  pub whole : summary_from before (net_of addresses tables) h body ≡ summary_from gone (net_of addresses after) g reply
  pub onward : OnItsWay addresses places after gone g reply
  pub request : h.function ≡ Request
  pub back : g.function ≡ Reply

-- a leg begins with this header, with so many transmissions made before it, over these tables
abbrev pub Begins : Leg → List ℕ → ℕ → Header → Type 0
Begins l tables before first = OnItsWay l.addresses.now l.places.now tables before (head_of first l.block.now) l.body.now

-- where it came to, in tables after and a buffer that has the body of a reply in its first places
abbrev pub Leads : Leg → List ℕ → ℕ → Header → List ℕ → List ℕ → Stop → Type 0
Leads l tables before first after buffer s =
    let h = head_of first l.block.now in
    let g = head_of s.header l.block.now in
    MatchControlFlow s.next
    (λ n. (n ≤ length buffer) × LegTurns l.addresses.now l.places.now tables before h l.body.now after s.gone g (take n buffer))
    (λ e. LegEnds l.addresses.now tables before h l.body.now after s.gone g (ending_of e))

-- the summary of the journey that a leg begins so
abbrev pub summary_of_leg : Leg → List ℕ → ℕ → Header → Summary
summary_of_leg l tables before first = summary_from before (net_of l.addresses.now tables) (head_of first l.block.now) l.body.now

-- what a dry run gives, by the summary of its journey, in the places that it fills
abbrev pub of_summary : Summary → DryRun
of_summary s = leaves (played s.count s.ending (length s.last)) (tables_of s.net) (padded s.last)
