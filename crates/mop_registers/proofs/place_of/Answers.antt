-- `place_of`: within each run the places go up with the numbers, and every number of the table is in one of the runs.
-- Assumes nothing.
use mathlib.Core.Path.{refl, sym, ap}
use mathlib.Core.Bool.{Bool, ◌||◌}
use Prim.Native.Nat.{ℕ}
use native.Mathlib.Omega.{arith}
use borrow.Author.Tests.{ne_eqb}
use lib.Dec.{eqb}
use Rattle.mop_registers.specs.Rows.{from_to, table_length, place_of, exists}
use Rattle.mop_registers.specs.Runs.{run_exists}
use Rattle.mop_registers.proofs.Places.{no_place}
use Rattle.mop_registers.proofs.Runs.{from_first, to_last, place_within}
use Rattle.mop_registers.proofs.place_of.Goals as goal

pub overflow_sub-result : goal.overflow_sub-result
overflow_sub-result c =
    let n = c.args.number in
    omega (arith, from_first _ _ n c.if-number.true)

pub overflow_add-result : goal.overflow_add-result
overflow_add-result c =
    let n = c.args.number in
    omega (arith, to_last _ _ n c.if-number.true)

pub overflow_sub-result-then-number-2 : goal.overflow_sub-result-then-number-2
overflow_sub-result-then-number-2 c =
    let n = c.args.number in
    omega (arith, from_first _ _ n c.if-number-2.true)

pub overflow_add-result-then-number-2 : goal.overflow_add-result-then-number-2
overflow_add-result-then-number-2 c =
    let n = c.args.number in
    omega (arith, to_last _ _ n c.if-number-2.true)

pub overflow_sub-result-then-number-3 : goal.overflow_sub-result-then-number-3
overflow_sub-result-then-number-3 c =
    let n = c.args.number in
    omega (arith, from_first _ _ n c.if-number-3.true)

pub overflow_add-result-then-number-3 : goal.overflow_add-result-then-number-3
overflow_add-result-then-number-3 c =
    let n = c.args.number in
    omega (arith, to_last _ _ n c.if-number-3.true)

pub returns-then-number-eq2 : goal.returns-then-number-eq2
unfolding place_of
returns-then-number-eq2 c = sym (ap place_of c.if-number-eq2.true)

pub returns-then-number-eq300 : goal.returns-then-number-eq300
unfolding place_of
returns-then-number-eq300 c = sym (ap place_of c.if-number-eq300.true)

pub returns-then-number : goal.returns-then-number
unfolding place_of exists run_exists table_length
returns-then-number c = place_within 931 _ _ c.if-number.true refl

pub returns-then-number-2 : goal.returns-then-number-2
unfolding place_of exists run_exists table_length
returns-then-number-2 c = place_within 952 _ _ c.if-number-2.true refl

pub returns-then-number-3 : goal.returns-then-number-3
unfolding place_of exists run_exists table_length
returns-then-number-3 c = place_within 955 _ _ c.if-number-3.true refl

-- the numbers of the runs
abbrev in_runs : ℕ → Bool
in_runs n = eqb n 2 || eqb n 300 || from_to 931 936 n || from_to 952 953 n || from_to 955 962 n

pub returns-else-number-3 : goal.returns-else-number-3
unfolding table_length
returns-else-number-3 c =
    let n = c.args.number in
    let two = ne_eqb n 2 c.if-number-eq2.false in
    let pump = ne_eqb n 300 c.if-number-eq300.false in
    sym (no_place n in_runs refl (rw (two, pump, c.if-number.false, c.if-number-2.false, c.if-number-3.false)))
