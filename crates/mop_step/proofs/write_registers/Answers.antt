-- `write_registers`: the values are stored from the place of the write start on.
-- Assumes nothing.
use Rattle.mop_registers.specs.Rows.{place_of}
use Rattle.base.proofs.Places.{take_rest}
use lib.Seq.{sets}
use Rattle.base.specs.Words.{words_of}
use Prim.Native.Nat.{ℕ}
use mathlib.Core.List.{List}
use mathlib.Core.Path.{◌∙◌, ap, ap₂}
use Rattle.mop_step.proofs.write_registers.Goals as goal

pub returns : goal.returns
returns c =
    let p = c in
    let a = p.args in
    let place = p.place_of-at.ensures ∙ ap place_of p.word_of-start.ensures in
    c.store_words.ensures
    ∙ ap₂ (λ (at : ℕ) (l : List ℕ). sets a.registers.now at (words_of l)) place (take_rest 6 a.body.now)
