-- How large the values of the link's calls are.
-- Assumes nothing.
use mathlib.Core.Path.{◌≡◌, refl, subst}
use mathlib.Core.Bool.{Bool, true, false}
use mathlib.Core.List.{List}
use Prim.Native.Nat.{ℕ, ◌≤◌}
use native.Mathlib.Omega.{arith}
use borrow.Author.Tests.{ltb-false}
use lib.Dec.{ltb}
use lib.ListN.{length}
use Rattle.base.specs.Choice.{pick}
use Rattle.base.specs.Filling.{Given, filled, refused, Filling, denied, fitted}
use Rattle.base.proofs.Choice.{pick_either}
use Rattle.link_frame.specs.Frame.{frame_of, framing, max_data}
use Rattle.link_frame.proofs.Doubling.{doubled_bound}
use Rattle.link_frame.proofs.Framing.{length_frame}
use Rattle.c_link.specs.Bounds.{max_frame, LinkBounds}
use Rattle.c_link.specs.Private.Small.{SmallResponse}
use Rattle.c_link.proofs.Messages.{response_small}

-- what is filled has so many places at most
abbrev Within : ℕ → Given → Type 0
Within most (filled n) = n ≤ most
Within most (refused k) = Unit

fitted_within : (most : ℕ) (bytes out : List ℕ) → length bytes ≤ most → Within most (fitted bytes out).given
unfolding fitted
fitted_within most bytes out h = pick_either (λ (f : Filling). Within most f.given) (ltb (length out) (length bytes)) tt h

frame_within : (d out : List ℕ) (t : Bool) → ltb max_data (length d) ≡ t →
    Within max_frame (pick t (denied 12 out) (fitted (frame_of d) out)).given
frame_within d out true e = tt
frame_within d out false e =
    fitted_within max_frame (frame_of d) out (omega (arith, length_frame d, doubled_bound d, ltb-false max_data (length d) e))

frame_bound : (d out : List ℕ) → Within max_frame (framing d out).given
unfolding framing
frame_bound d out = frame_within d out (ltb max_data (length d)) refl

pub link_bounds : LinkBounds
link_bounds = record {
  frame = λ d out n e. subst (Within max_frame) e (frame_bound d out);
  byte = λ s e buf b is. subst SmallResponse is (response_small s e buf);
  message = λ s e buf b n is. subst SmallResponse is (response_small s e buf);
}
