-- `put_words`: what is written, and what is left from i on, make the whole.
-- Assumes nothing.
use Prim.Native.Nat.{ℕ, ◌+◌, ◌*◌, ◌/◌, ◌%◌}
use mathlib.Core.Path.{sym, ◌∙◌, ap}
use mathlib.Core.List.{List}
use native.Mathlib.Nat.{add-zero}
use native.Mathlib.Omega.{arith}
use lib.ListN.{get_or, drop_of_length-le}
use lib.Seq.{sets}
use Rattle.base.specs.Words.{bytes_of}
use Rattle.places.proofs.Copies.{sets_beyond}
use Rattle.words.proofs.Writing.{pair_stored, put_step, put_last}
use Rattle.words.proofs.put_words.Goals as goal

pub returns-then-out-at : goal.returns-then-out-at
returns-then-out-at c = sym (sets_beyond c.args.out.now c.args.at (bytes_of c.args.numbers.now) (omega arith))

pub returns-then-out-place : goal.returns-then-out-place
returns-then-out-place c =
    let v = c.loop-i in
    let a = c.args in
    put_last a.numbers.now v.out (a.at + 2 * v.i) v.i c.loop-i-test.true (c.type_inv.numbers v.i).fits v.invariant (omega arith) c.to_be_bytes-pair.ensures c.put.ensures

pub loop-i-init : goal.loop-i-init
loop-i-init c = rw add-zero

pub loop-i-preserved : goal.loop-i-preserved
loop-i-preserved c =
    let v = c.loop-i in
    let a = c.args in
    let place = a.at + 2 * v.i in
    let n = get_or a.numbers.now v.i 0 in
    let pair = c.to_be_bytes-pair.ensures in
    put_step a.numbers.now v.out place v.i c.loop-i-test.true (c.type_inv.numbers v.i).fits v.invariant pair (pair_stored v.out place (n / 256 % 256) (n % 256) pair) (omega arith)

pub returns : goal.returns
unfolding bytes_of
returns c =
    let a = c.args in
    let v = c.loop-i in
    let none = drop_of_length-le a.numbers.now c.loop-i-test.false in
    sym (ap (λ (l : List ℕ). sets v.out (a.at + 2 * v.i) (bytes_of l)) none) ∙ v.invariant
