-- `hear`: the block, and the body behind the header.
-- Assumes nothing.
use Rattle.mop_station.specs.Station.{hearing, taking}
use Rattle.mop_step.specs.Step.{Step, stepping}
use Rattle.mop_header.proofs.Lengths.{start_within}
use Rattle.mop_header.specs.Header.{head_of, block_start, body_of}
use Rattle.base.proofs.Places.{rest_from}
use lib.ListN.{length, drop}
use native.Mathlib.Omega.{arith}
use Prim.Native.Nat.{ℕ}
use mathlib.Core.List.{List}
use mathlib.Core.Path.{◌∙◌, ap₂}
use Rattle.mop_station.proofs.hear.Goals as goal

pub slice_bounds-block-count : goal.slice_bounds-block-count
slice_bounds-block-count c =
    let h = c.args.header in
    omega (arith, start_within h (drop (block_start h.form) c.args.telegram.now) c.block_start.ensures, c.requires)

pub slice_bounds-block-start : goal.slice_bounds-block-start
slice_bounds-block-start c = slice_bounds-block-count c

pub returns : goal.returns
unfolding hearing body_of
returns c =
    let a = c.args in
    let t = a.telegram.now in
    let block = rest_from t c.block_start.ensures in
    let body = rest_from t (c.length.ensures (drop (block_start a.header.form) t)) in
    let step : List ℕ → List ℕ → Step = λ k b.
    stepping a.own (head_of a.header k) b a.registers.now (length a.out.now) in
    c.take_telegram.ensures ∙ ap₂ (λ (k : List ℕ) (b : List ℕ). taking (step k b) b a.out.now) block body
