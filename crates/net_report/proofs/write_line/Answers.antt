-- `write_line`: the number, the function byte, the entries and the end of the line, one behind the other.
-- Assumes nothing.
use mathlib.Core.Path.{ap, ◌∙◌}
use mathlib.Core.List.{List, [], ◌∷◌, ◌++◌}
use Prim.Native.Nat.{ℕ}
use native.Mathlib.Omega.{arith}
use lib.ListN.{length-set}
use Rattle.base.specs.Private.Writing.{writing}
use Rattle.base.proofs.Writing.{behind, behind_store}
use Rattle.mop_header.specs.Header.{head_of}
use Rattle.net_report.specs.Text.{line_feed, hex_bytes, decimal}
use Rattle.net_report.proofs.Lines.{line_parts}
use Rattle.net_report.proofs.write_line.Goals as goal

pub shape_of-out : goal.shape_of-out
shape_of-out c =
    simp length-set (c.write_entries-place.auto.out ∙ c.write_byte-place.auto.out ∙ c.write_decimal-place.auto.out)

pub returns : goal.returns
returns c =
    let a = c.args in
    let out = a.out.now in
    let f = c.function_byte in
    let h = head_of a.header a.block.now in
    let number = decimal a.number in
    let first = hex_bytes (f.result ∷ []) in
    let rest = hex_bytes h.block in
    let both = behind a.at number first out c.write_decimal-place.ensures.out_after c.write_byte-place.ensures.out_after in
    let all = behind a.at (number ++ first) rest out both c.write_entries-place.ensures.out_after in record {
      out_after = behind_store a.at ((number ++ first) ++ rest) line_feed out all
          ∙ ap (λ (text : List ℕ). writing a.at text out) (line_parts a.number h f.result f.ensures);
      upper_bound = omega arith;
    }
