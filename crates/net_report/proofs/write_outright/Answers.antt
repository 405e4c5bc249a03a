-- `write_outright`: the end of the line behind the refusal.
-- Assumes nothing.
use native.Mathlib.Omega.{arith}
use Rattle.base.proofs.Writing.{behind_store}
use Rattle.refusal.specs.Numbers.{number_of}
use Rattle.net_report.specs.Text.{line_feed, refused_text, outright_text}
use Rattle.net_report.proofs.write_outright.Goals as goal

pub returns : goal.returns
unfolding outright_text
returns c =
    let a = c.args in
    record { out_after = behind_store 0 (refused_text (number_of a.refusal)) line_feed a.out.now c.write_refused-place.ensures.out_after; upper_bound = omega arith }
