-- A net and a telegram have one journey at most: two journeys are both what is played.
-- Assumes nothing.
use mathlib.Core.Path.{◌≡◌, sym, ◌∙◌}
use mathlib.Core.List.{List}
use Prim.Native.Nat.{ℕ, ◌+◌}
use native.Mathlib.Omega.{arith}
use lib.ListN.{length}
use Rattle.net_journey.specs.Net.{Net}
use Rattle.net_journey.specs.Journey.{Course, Journey}
use Rattle.net_journey.proofs.Bounded.{plays}

pub unique : {net : Net} {tg : List ℕ} {c d : Course} → Journey net tg c → Journey net tg d → c ≡ d
unique {c = c} {d = d} i j =
    let both = length c.transmissions + length d.transmissions in
    sym (plays both i (omega arith)) ∙ plays both j (omega arith)
