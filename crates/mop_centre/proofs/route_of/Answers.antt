-- `route_of`: the stations told so far, and those left from i on, make the whole.
-- Assumes nothing.
use mathlib.Core.Path.{◌≡◌, sym, ◌∙◌}
use Prim.Native.Nat.{◌<◌}
use native.Mathlib.Omega.{arith}
use lib.ListN.{length, get_or, length-set}
use Rattle.mop_block.specs.Block.{stations}
use Rattle.mop_block.proofs.Scan.{zero_next}
use Rattle.mop_header.specs.Header.{head_of}
use Rattle.mop_centre.proofs.Routes.{passed_over, station_told, all_told, one_fewer, told_places}
use Rattle.mop_centre.proofs.route_of.Goals as goal
use Rattle.mop_centre.proofs.route_of.Goals.{then-a-ne0, else-a-ne0}

pub bounds-route-place : goal.bounds-route-place
bounds-route-place c =
    let v = c.loop-i in
    let a = c.args in
    let b = (head_of a.header a.block.now).block in
    let inside : v.i < length b = omega (arith, c.entry_count-i-end.ensures a.block.now) in
    omega (arith, one_fewer b v.i inside (λ e. c.if-a-ne0.true (c.entry-a.ensures ∙ e)))

pub loop-i-preserved : goal.loop-i-preserved
loop-i-preserved c =
    let v = c.loop-i in
    let a = c.args in
    let b = (head_of a.header a.block.now).block in
    let inside : v.i < length b = omega (arith, c.entry_count-i-end.ensures a.block.now) in
    elim c.if-a-ne0.branch [
      | then-a-ne0 w ↦
          (let station : get_or b v.i 0 ≡ 0 → ⊥ = λ e. w.if-a-ne0.true (c.entry-a.ensures ∙ e) in (
            rw w.route-is (simp length-set v.invariant.0),
            rw w.place-is (omega (arith, one_fewer b v.i inside station)),
            rw (w.route-is, w.place-is, c.entry-a.ensures) (station_told b v.i v.route v.place v.invariant.2 inside station),
          ))
      | else-a-ne0 w ↦
          (let zero : get_or b v.i 0 ≡ 0 = sym c.entry-a.ensures ∙ w.if-a-ne0.false in (
            rw w.route-is v.invariant.0,
            rw (w.place-is, ← zero_next b v.i inside zero) v.invariant.1,
            rw (w.route-is, w.place-is) (passed_over b v.i v.route v.place v.invariant.2 inside zero),
          ))
    ]

pub returns : goal.returns
returns c =
    let v = c.loop-i in
    let a = c.args in
    let b = (head_of a.header a.block.now).block in
    all_told b v.i v.route v.place v.invariant.2 (omega (arith, c.entry_count-i-end.ensures a.block.now)) ∙ told_places (stations b) (omega arith)
