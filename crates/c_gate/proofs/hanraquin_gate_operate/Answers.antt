-- `hanraquin_gate_operate`: the tests of levels and edges, and then the command.
-- Assumes nothing.
use mathlib.Core.Path.{sym, ap, ◌∙◌}
use Rattle.c_gate.specs.Commands.{operated_by}
use Rattle.c_answer.proofs.Options.{none_behind, some_behind}
use Rattle.c_gate.proofs.Bits.{bad_levels, bad_edges, bits_ten, of_bits}
use Rattle.c_gate.proofs.hanraquin_gate_operate.Goals as goal

pub returns-in_default : goal.returns-in_default
returns-in_default c = rw c.refused.ensures (sym (bad_levels _ _ _ (none_behind _ _ c.in_default.ensures)))

pub returns-in_default-bits_from : goal.returns-in_default-bits_from
returns-in_default-bits_from c =
    rw c.refused-in_default-bits_from.ensures (sym (bad_edges _ _ _ (none_behind _ _ c.in_default-bits_from.ensures)))

pub put_bits-requires : goal.put_bits-requires
put_bits-requires c = bits_ten _ (some_behind _ _ c.in-Some.ensures).0

pub put_bits-requires-2 : goal.put_bits-requires-2
put_bits-requires-2 c = bits_ten _ (some_behind _ _ c.in-Some-bits_from.ensures).0

pub returns : goal.returns
returns c =
    let levels = some_behind _ _ c.in-Some.ensures in
    let edges = some_behind _ _ c.in-Some-bits_from.ensures in
    rw (c.of_verdict.ensures, c.put_bits.ensures, c.put_bits-2.ensures)
    (ap operated_by c.operate-done.ensures ∙ rw (levels.1, edges.1) (sym (of_bits _ _ _ levels.0 edges.0)))
