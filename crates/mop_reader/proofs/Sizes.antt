-- How many entries a block has at most, and how many bytes a header.
-- Assumes nothing.
use mathlib.Core.Path.{◌≡◌}
use mathlib.Core.Bool.{true, and-eq-true_iff}
use Prim.Native.Nat.{ℕ, ◌≤◌}
use native.Mathlib.Omega.{arith}
use borrow.Author.Tests.{leb-true, eqb-true}
use lib.Dec.{leb}
use lib.ListN.{length}
use Rattle.mop_header.specs.Header.{Head, header_length}
use Rattle.mop_header.specs.declared.Form.{Form}
use Rattle.mop_header.specs.declared.Form.TheVariants.{Standard, Extended}
use Rattle.mop_header.proofs.Lengths.{start_most, length_header}
use Rattle.mop_reader.specs.ReadBack.{sized, InOrder}
use Rattle.mop_reader.specs.declared.Reader.{Reader}

-- a block has at most 32 entries, and so a header in order at most 39 bytes
pub sized_most : (form : Form) (n : ℕ) → sized form n ≡ true → n ≤ 32
unfolding sized
sized_most Standard n s = omega (arith, eqb-true n 4 s)
sized_most (Extended m) n s = leb-true n 32 ((and-eq-true_iff (leb 2 n) (leb n 32)).0 s).1

pub header_bound : (who : Reader) (h : Head) → InOrder who h → header_length h ≤ 39
header_bound who h o = omega (arith, length_header h, start_most h.form, sized_most h.form (length h.block) o.size)
