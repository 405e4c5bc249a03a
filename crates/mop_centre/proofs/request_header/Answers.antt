-- `request_header`: the route, filled up with 00s.
-- Assumes nothing.
use mathlib.Core.Path.{◌≡◌, sym, ◌∙◌, ap}
use mathlib.Core.List.{◌++◌}
use Prim.Native.Nat.{ℕ, ◌+◌, ◌-◌}
use native.Mathlib.Omega.{arith}
use lib.ListN.{length}
use Rattle.mop_block.specs.Zipper.{zeros}
use Rattle.mop_header.specs.Header.{head, entries, new_control}
use Rattle.mop_header.specs.declared.Function.TheVariants.{Request}
use Rattle.mop_header.specs.declared.Form.TheVariants.{Standard, Extended}
use Rattle.mop_centre.proofs.Routes.{standard_head, extended_head, block_filled}
use Rattle.mop_centre.proofs.request_header.Goals as goal

pub returns-then-n-le3 : goal.returns-then-n-le3
returns-then-n-le3 c =
    let route = c.args.route.now in
    c.new.ensures _
    ∙ ap (head Request new_control Standard) (ap (entries 4) c.put.ensures ∙ block_filled route 4 (omega arith) (omega arith))
    ∙ sym (standard_head route (omega arith))

pub returns-else-n-le3 : goal.returns-else-n-le3
returns-else-n-le3 c =
    let route = c.args.route.now in
    let n = length route in
    let one : (n + 1) - n ≡ 1 = omega arith in
    c.new-else-n-le3.ensures _
    ∙ ap (head Request new_control (Extended 0xEF)) (ap (entries (n + 1)) c.put.ensures ∙ block_filled route (n + 1) (omega arith) (omega arith) ∙ ap (λ (k : ℕ). route ++ zeros k) one)
    ∙ sym (extended_head route (omega arith))
