-- `over`: the check over the bytes so far, and one byte more.
-- Assumes nothing.
use mathlib.Core.Path.{◌≡◌, subst, sym}
use mathlib.Core.List.{List}
use borrow.Author.Rules.{rules}
use Prim.Native.Nat.{ℕ}
use Rattle.std.proofs.lemmas.Fn.{fold_over, slice_gives, fronts}
use Rattle.crc16.specs.Ccitt.{ccitt_over}
use Rattle.crc16.proofs.CcittCheck.{ccitt_none, ccitt_push}
use Rattle.crc16.proofs.ccitt.over.Goals as goal

pub returns : goal.returns
returns c =
    let check = c.args.check in
    subst (λ (l : List ℕ). c.fold.result ≡ ccitt_over check l) c.iter.ensures.rest
    (fold_over fronts (λ y. y.now) _ (λ ys r. r ≡ ccitt_over check ys) _ (λ ys a x b f' j k. rw (ccitt_push check ys x.now, ← j) (search rules))
    _ _ _ _ (slice_gives c.iter.result) (sym (ccitt_none check)) c.fold.ensures.ran)
