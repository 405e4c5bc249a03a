-- `write_byte`: three stores.
-- Assumes nothing.
use native.Mathlib.Omega.{arith}
use native.Mathlib.Numerals.{add-one, add-two}
use lib.ListN.{length-set}
use Rattle.net_report.specs.Text.{hex_bytes}
use Rattle.net_report.proofs.write_byte.Goals as goal

pub bounds-out-at-2 : goal.bounds-out-at-2
bounds-out-at-2 c = simp length-set (omega arith)

pub bounds-out-at-3 : goal.bounds-out-at-3
bounds-out-at-3 c = simp length-set (omega arith)

pub returns : goal.returns
unfolding hex_bytes
returns c = record { out_after = rw (← c.hex_digit-high.ensures, ← c.hex_digit-low.ensures, add-one, add-two); upper_bound = omega arith }
