-- `write_run`: the run fills its places.
-- Assumes nothing.
use mathlib.Core.Path.{◌≡◌, refl, ap, sym, ◌∙◌}
use Prim.Native.Nat.{ℕ, ◌+◌, ◌-◌}
use native.Mathlib.Omega.{arith}
use lib.ListN.{replicate, length, take, drop, length-take, length-drop}
use Rattle.base.proofs.Places.{sets_all}
use Rattle.base.proofs.Writing.{part_written}
use Rattle.link_frame.specs.ControlBytes.{DLE}
use Rattle.link_frame.proofs.write_run.Goals as goal

pub returns : goal.returns
returns c =
    let a = c.args in
    let lent = take (a.from + 32 - a.from) (drop a.from a.out.now) in
    let long : length lent ≡ 32 = simp (length-take, length-drop) (omega arith) in
    part_written a.from (replicate 32 DLE) a.out.now refl (omega arith)
    (c.fill.ensures.after (λ y e. e) ∙ ap (λ (n : ℕ). replicate n DLE) long ∙ sym (sets_all (replicate 32 DLE) lent (sym long)))
