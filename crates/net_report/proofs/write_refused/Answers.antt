-- `write_refused`: the number behind the word.
-- Assumes nothing.
use mathlib.Core.List.{List, [], ◌∷◌}
use Prim.Native.Nat.{ℕ}
use native.Mathlib.Omega.{arith}
use Rattle.base.proofs.Writing.{behind_copy}
use Rattle.net_report.specs.Text.{space, decimal, refused_text}
use Rattle.net_report.proofs.write_refused.Goals as goal

pub returns : goal.returns
unfolding refused_text
returns c =
    let a = c.args in
    let d = c.write_decimal.ensures in
    let word : List ℕ = 0x72 ∷ 0x65 ∷ 0x66 ∷ 0x75 ∷ 0x73 ∷ 0x65 ∷ 0x64 ∷ space ∷ [] in
    let text = behind_copy a.at word (decimal c.number.result) a.out.now c.put.ensures d.out_after in
    record { out_after = rw (← c.number.ensures) text; upper_bound = omega (arith, d.upper_bound) }
