-- `good_block`: what was seen, and what is left, decide as the whole block does.
-- Assumes nothing.
use mathlib.Core.Path.{◌≡◌, sym, ◌∙◌}
use mathlib.Core.List.{[], ◌∷◌}
use native.Mathlib.Omega.{arith}
use Prim.Native.Nat.{◌+◌, ◌≤◌}
use lib.ListN.{get_or}
use Rattle.mop_block.specs.Block.{zero_ends}
use Rattle.mop_block.proofs.Pass.{good_none, good_start, pass_zero, pass_refused, pass_station, pass_end}
use Rattle.mop_block.proofs.good_block.Goals as goal
use Rattle.mop_block.proofs.good_block.Goals.{then-zero_end, else-zero_end}

pub returns-then-n-eq0 : goal.returns-then-n-eq0
returns-then-n-eq0 c = sym (good_none c.args.b.now c.if-n-eq0.true)

pub loop-i-init : goal.loop-i-init
loop-i-init c = (omega arith, omega arith, good_start _ (omega arith))

pub returns-then-not-note_address : goal.returns-then-not-note_address
returns-then-not-note_address c =
    let v = c.loop-i in
    let none = sym c.note_address.ensures.value ∙ c.if-not-note_address.true in
    sym (pass_refused c.args.b.now v.i v.zero v.ends v.last v.seen (omega arith) c.if-x-eq0.false none) ∙ v.invariant.2

pub loop-i-preserved-then-x-eq0 : goal.loop-i-preserved-then-x-eq0
loop-i-preserved-then-x-eq0 c =
    let v = c.loop-i in
    let b = c.args.b.now in
    let ends : c.if-zero_end.ends ≡ v.ends + zero_ends (v.last ∷ get_or b v.i 0 ∷ []) =
    elim c.if-zero_end.branch [
      | then-zero_end w ↦ omega (arith, w.ends-is, rw w.if-zero_end.true at c.zero_end.ensures)
      | else-zero_end w ↦ omega (arith, w.ends-is, rw w.if-zero_end.false at c.zero_end.ensures)
    ] in
    let most : c.if-zero_end.ends ≤ v.i + 1 =
    elim c.if-zero_end.branch [ then-zero_end w ↦ omega (arith, w.ends-is) | else-zero_end w ↦ omega (arith, w.ends-is) ] in
    (most, omega arith, rw ends (sym (pass_zero b v.i v.zero v.ends v.last v.seen (omega arith) c.if-x-eq0.true) ∙ v.invariant.2))

pub loop-i-preserved : goal.loop-i-preserved
loop-i-preserved c =
    let v = c.loop-i in
    let b = c.args.b.now in
    let ends : c.if-zero_end.ends ≡ v.ends + zero_ends (v.last ∷ get_or b v.i 0 ∷ []) =
    elim c.if-zero_end.branch [
      | then-zero_end w ↦ omega (arith, w.ends-is, rw w.if-zero_end.true at c.zero_end.ensures)
      | else-zero_end w ↦ omega (arith, w.ends-is, rw w.if-zero_end.false at c.zero_end.ensures)
    ] in
    let most : c.if-zero_end.ends ≤ v.i + 1 =
    elim c.if-zero_end.branch [ then-zero_end w ↦ omega (arith, w.ends-is) | else-zero_end w ↦ omega (arith, w.ends-is) ] in
    let yes = sym c.note_address.ensures.value ∙ c.if-not-note_address.false in (
      most,
      omega arith,
      rw (c.note_address.ensures.seen_after, ends)
          (sym (pass_station b v.i v.zero v.ends v.last v.seen (omega arith) c.if-x-eq0.false yes) ∙ v.invariant.2),
    )

pub returns-then-not-zero : goal.returns-then-not-zero
returns-then-not-zero c =
    let v = c.loop-i in
    let e = pass_end c.args.b.now v.i v.zero v.ends v.last v.seen (omega arith) in
    sym (e ∙ rw c.if-not-zero.true) ∙ v.invariant.2

pub returns : goal.returns
returns c =
    let v = c.loop-i in
    let e = pass_end c.args.b.now v.i v.zero v.ends v.last v.seen (omega arith) in
    sym (e ∙ rw c.if-not-zero.false) ∙ v.invariant.2
