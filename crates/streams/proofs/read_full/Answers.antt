-- One read more: what it gave stands behind what was filled before, which stays as it was.
-- Assumes nothing.
use Rattle.std.proofs.Common.{◌≡◌, ℕ, ◌+◌, ◌-◌, ◌≤◌, List, ◌++◌, rules, arith, length, take, slice_range, sym, ap, ◌∙◌, subst, le_refl, drop_at, length-take-le}
use Rattle.std.proofs.lemmas.Slice.{take-put_mid_below}
use Rattle.std.specs.Io.KnownBytes.{Consumes}
use Rattle.std.proofs.KnownBytes.{Consumes-trans, Consumes-kept}
use borrow.Rule.Slice.PartMut.{put_mid, post_of}
use lib.Seq.{take-add, take-append-le}
use Rattle.streams.proofs.read_full.Goals.{in-Ok, in-Err+else-ne}
use Rattle.streams.proofs.read_full.Goals as goal

-- Up to b there is what was there up to a, and then what is there from a to b.
take_split : (a b : ℕ) (old new : List ℕ) → a ≤ b → take a new ≡ take a old → take a old ++ slice_range new a b ≡ take b new
take_split a b old new h front =
    let same : a + (b - a) ≡ b = omega arith in
    ap (λ l. l ++ slice_range new a b) (sym front) ∙ sym (take-add a (b - a) new) ∙ ap (λ n. take n new) same

-- What is put in from a on stands there.
slice_range-put_mid : (a k n : ℕ) (xs ys : List ℕ) → a ≤ length xs → n ≤ length ys → slice_range (put_mid a k xs ys) a (a + n) ≡ take n ys
slice_range-put_mid a k n xs ys within fits =
    let same : (a + n) - a ≡ n = omega arith in
    let after = post_of a k xs in
    ap (take ((a + n) - a)) (drop_at (take a xs) (ys ++ after) a (length-take-le a xs within)) ∙ ap (λ m. take m (ys ++ after)) same ∙ take-append-le n ys after fits

pub loop-preserved : goal.loop-preserved
loop-preserved g c =
    let before = c.loop.filled in
    let room = length c.loop.buffer - before in
    let within = c.loop.invariant.0 in
    let after = put_mid before room c.loop.buffer c.read.new.buf in
    let kept : take before after ≡ take before c.loop.buffer = take-put_mid_below _ _ _ _ _ (le_refl _) within in
    elim c.match-read.branch [
      | in-Ok w ↦
          let n = w.in-Ok.n in
          let part = slice_range-put_mid before room n c.loop.buffer c.read.new.buf within w.in-Ok.ensures.bound.0 in
          let joined = ap (λ l. take before c.loop.buffer ++ l) (sym part) ∙ take_split before (before + n) c.loop.buffer after (omega arith) kept ∙ ap (λ k. take k after) (sym w.filled-is) in
          (search rules, subst (Consumes _ _) joined (Consumes-trans _ _ _ _ _ c.loop.invariant.1 w.in-Ok.ensures.bytes.0))
      | in-Err+else-ne w ↦
          (search rules, subst (Consumes _ _) (sym kept ∙ ap (λ k. take k after) (sym w.filled-is)) (Consumes-kept _ _ _ _ c.loop.invariant.1 w.in-Err.ensures.bytes))
    ]
