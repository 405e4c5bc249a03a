-- `run_takes`: the values that are left, from the byte at 2 * i on, give the whole.
-- Assumes nothing.
use mathlib.Core.Path.{◌≡◌, sym, ◌∙◌}
use native.Mathlib.Omega.{arith}
use Prim.Native.Nat.{◌+◌, ◌*◌}
use Rattle.mop_registers.proofs.Places.{number_bound, taken_exists}
use Rattle.mop_registers.proofs.Values.{takes_on, takes_off, takes_over}
use Rattle.mop_registers.proofs.run_takes.Goals as goal

pub returns-then-not-takes : goal.returns-then-not-takes
returns-then-not-takes c =
    let v = c.loop-i in
    let none = sym c.takes.ensures ∙ c.if-not-takes.true in
    sym (takes_off c.args.values.now (2 * v.i) (c.args.start + v.i) (omega arith) (rw c.word_of.ensures at none)) ∙ v.invariant.1

pub loop-i-preserved : goal.loop-i-preserved
loop-i-preserved c =
    let v = c.loop-i in
    let values = c.args.values.now in
    let yes = sym c.takes.ensures ∙ c.if-not-takes.false in
    let bound = number_bound _ (taken_exists _ _ yes) in
    let at : 2 * (v.i + 1) ≡ 2 * v.i + 2 = omega arith in
    let next : c.args.start + (v.i + 1) ≡ c.args.start + v.i + 1 = omega arith in
    (omega (arith, bound), rw (at, next) (takes_on values (2 * v.i) (c.args.start + v.i) (omega arith) (rw c.word_of.ensures at yes) ∙ v.invariant.1))

pub returns : goal.returns
returns c =
    let v = c.loop-i in
    sym (takes_over c.args.values.now (2 * v.i) (c.args.start + v.i) (omega arith)) ∙ v.invariant.1
