-- `check_byte`: the parity of the bytes sent more than the data has is that of its DLEs.
-- Assumes nothing.
use mathlib.Core.Path.{◌≡◌, sym}
use Prim.Native.Nat.{◌-◌, ◌%◌}
use native.Mathlib.Nat.{mod-lt}
use native.Mathlib.Omega.{arith}
use lib.ListN.{length}
use Rattle.link_frame.proofs.Check.{not_shorter, xor_folded, check_even, check_odd}
use Rattle.link_frame.proofs.check_byte.Goals as goal

pub overflow_sub-n : goal.overflow_sub-n
overflow_sub-n c = omega (arith, not_shorter c.args.src.now)

pub returns-then-n-src-eq1 : goal.returns-then-n-src-eq1
returns-then-n-src-eq1 c =
    let s = c in
    rw (c.xor_all-sum.ensures, xor_folded) (sym (check_odd s.args.src.now s.args.n s.requires c.if-n-src-eq1.true))

pub returns-else-n-src-eq1 : goal.returns-else-n-src-eq1
returns-else-n-src-eq1 c =
    let s = c in
    let src = s.args.src.now in
    let even : (s.args.n - length src) % 2 ≡ 0 = omega (arith, mod-lt (s.args.n - length src) {m = 2} (omega arith)) in
    rw (c.xor_all-sum.ensures, xor_folded) (sym (check_even src s.args.n s.requires even))
