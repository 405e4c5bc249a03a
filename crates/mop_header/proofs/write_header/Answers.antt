-- `write_header`: the bytes before the block by the form, then the block.
-- Assumes nothing.
use Rattle.mop_header.proofs.Writing.{copied_first, standard_stored, extended_stored}
use Rattle.mop_header.proofs.Lengths.{length_block, room_behind}
use Rattle.mop_header.specs.Header.{head_of}
use Prim.Native.Nat.{ℕ, ◌≤◌}
use native.Mathlib.Omega.{arith}
use borrow.Author.Rules.{rules}
use lib.ListN.{length, length-drop}
use lib.Seq.{sets}
use mathlib.Core.List.{List, [], ◌∷◌}
use mathlib.Core.Path.{refl, sym, ap, ◌∙◌}
use Rattle.mop_header.proofs.write_header.Goals as goal

pub slice_bounds-copy_from_slice-end : goal.slice_bounds-copy_from_slice-end
slice_bounds-copy_from_slice-end c =
    let a = c.args in
    omega (arith, room_behind a.header a.block.now c.in-Standard.is c.requires)

pub slice_bounds-copy_from_slice-end-in-Standard : goal.slice_bounds-copy_from_slice-end-in-Standard
slice_bounds-copy_from_slice-end-in-Standard c =
    let a = c.args in
    let room : 2 ≤ length a.out.now = omega (arith, room_behind a.header a.block.now c.in-Standard.is c.requires) in
    search rules

pub slice_bounds-copy_from_slice-end-in-Extended : goal.slice_bounds-copy_from_slice-end-in-Extended
slice_bounds-copy_from_slice-end-in-Extended c =
    let a = c.args in
    omega (arith, room_behind a.header a.block.now c.in-Extended.is c.requires)

pub slice_bounds-copy_from_slice-end-in-Extended-2 : goal.slice_bounds-copy_from_slice-end-in-Extended-2
slice_bounds-copy_from_slice-end-in-Extended-2 c =
    let a = c.args in
    let room : 7 ≤ length a.out.now = omega (arith, room_behind a.header a.block.now c.in-Extended.is c.requires) in
    search rules

pub copy_from_slice-requires : goal.copy_from_slice-requires
copy_from_slice-requires c =
    let a = c.args in
    let room : 2 ≤ length a.out.now = omega (arith, room_behind a.header a.block.now c.in-Standard.is c.requires) in
    search rules

pub copy_from_slice-requires-in-Extended : goal.copy_from_slice-requires-in-Extended
copy_from_slice-requires-in-Extended c =
    let a = c.args in
    let room : 7 ≤ length a.out.now = omega (arith, room_behind a.header a.block.now c.in-Extended.is c.requires) in
    search rules

pub put_block-requires : goal.put_block-requires
put_block-requires c =
    let a = c.args in
    simp (length-drop, c.copy_from_slice.ensures.after) (omega (arith, room_behind a.header a.block.now c.in-Standard.is c.requires))

pub put_block-requires-in-Extended : goal.put_block-requires-in-Extended
put_block-requires-in-Extended c =
    let a = c.args in
    simp (length-drop, c.copy_from_slice-in-Extended.ensures.after) (omega (arith, room_behind a.header a.block.now c.in-Extended.is c.requires))

pub returns-in-Standard : goal.returns-in-Standard
returns-in-Standard c =
    let a = c.args in
    let h = head_of a.header a.block.now in
    let room : 2 ≤ length a.out.now = omega (arith, room_behind a.header a.block.now c.in-Standard.is c.requires) in
    let bytes : List ℕ = c.function_byte-byte.result ∷ a.header.control ∷ [] in
    rw (c.put_block.ensures, c.copy_from_slice.ensures.after)
    (ap (λ (l : List ℕ). sets l 2 h.block) (copied_first bytes a.out.now room)
    ∙ standard_stored h a.out.now c.function_byte-byte.ensures refl c.in-Standard.is)

pub returns-in-Extended : goal.returns-in-Extended
returns-in-Extended c =
    let a = c.args in
    let h = head_of a.header a.block.now in
    let room : 7 ≤ length a.out.now = omega (arith, room_behind a.header a.block.now c.in-Extended.is c.requires) in
    let bytes : List ℕ = c.function_byte-byte.result ∷ a.header.control ∷ c.in-Extended.mark ∷ 0xEF ∷ 0xEF ∷ 0xEF ∷ a.header.count ∷ [] in
    rw (c.put_block-in-Extended.ensures, c.copy_from_slice-in-Extended.ensures.after)
    (ap (λ (l : List ℕ). sets l 7 h.block) (copied_first bytes a.out.now room)
    ∙ extended_stored h a.out.now c.function_byte-byte.ensures refl c.in-Extended.is (sym (length_block a.header a.block.now)))
