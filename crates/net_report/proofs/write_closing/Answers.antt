-- `write_closing`: the word, the count, the ending and the end of the line, one behind the other.
-- Assumes nothing.
use mathlib.Core.Path.{ap, ◌∙◌}
use mathlib.Core.List.{List, [], ◌∷◌, ◌++◌}
use Prim.Native.Nat.{ℕ}
use native.Mathlib.Omega.{arith}
use lib.ListN.{length-set}
use Rattle.base.specs.Private.Writing.{writing}
use Rattle.base.proofs.Writing.{behind, behind_copy, behind_store}
use Rattle.net_hop.specs.Hop.{ending_of}
use Rattle.net_report.specs.Text.{space, line_feed, decimal, sent_text, ending_text}
use Rattle.net_report.proofs.Lines.{closing_parts}
use Rattle.net_report.proofs.write_closing.Goals as goal

pub shape_of-out : goal.shape_of-out
shape_of-out c =
    simp length-set (c.write_ending-place.auto.out ∙ c.write_decimal-place.auto.out ∙ c.put.auto.out)

pub returns : goal.returns
unfolding sent_text
returns c =
    let a = c.args in
    let out = a.out.now in
    let ending = ending_text (ending_of a.end) in
    let word : List ℕ = 0x73 ∷ 0x65 ∷ 0x6E ∷ 0x74 ∷ space ∷ [] in
    let sent = behind_copy a.at word (decimal a.count) out c.put.ensures c.write_decimal-place.ensures.out_after in
    let both = behind a.at (sent_text a.count) ending out sent c.write_ending-place.ensures.out_after in record {
      out_after = behind_store a.at (sent_text a.count ++ ending) line_feed out both
          ∙ ap (λ (text : List ℕ). writing a.at text out) (closing_parts a.count (ending_of a.end));
      upper_bound = omega arith;
    }
