-- `put_entries`: what is put, and what is left from entry i on, make the whole.
-- Assumes nothing.
use Prim.Native.Nat.{ℕ, ◌+◌, ◌-◌}
use mathlib.Core.Path.{◌≡◌, sym, ◌∙◌, ap}
use mathlib.Core.List.{List}
use native.Mathlib.Omega.{arith}
use lib.ListN.{get_or, drop_of_length-le}
use lib.Seq.{sets}
use Rattle.mop_header.specs.Header.{entries}
use Rattle.mop_header.proofs.Turns.{length_entries, entry_of, entry_put}
use Rattle.mop_header.proofs.put_entries.Goals as goal

pub loop-i-preserved : goal.loop-i-preserved
loop-i-preserved c =
    let a = c.args in
    let v = c.loop-i in
    let left : List ℕ = entries a.end a.block.now in
    let next : a.at + (v.i + 1 - a.from) ≡ a.at + (v.i - a.from) + 1 = omega arith in
    let entry : c.entry_at.result ≡ get_or left v.i 0 = c.entry_at.ensures ∙ sym (entry_of a.end a.block.now v.i (omega arith)) in
    rw (next, entry) (entry_put left v.out v.i (a.at + (v.i - a.from)) (omega (arith, length_entries a.end a.block.now)) v.invariant)

pub returns : goal.returns
returns c =
    let a = c.args in
    let v = c.loop-i in
    let left : List ℕ = entries a.end a.block.now in
    sym (ap (sets v.out (a.at + (v.i - a.from))) (drop_of_length-le left {i = v.i} (omega (arith, length_entries a.end a.block.now)))) ∙ v.invariant
