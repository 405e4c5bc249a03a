-- `end`: the telegram is written, and the places behind it are cleared.
-- Assumes nothing.
use Rattle.net_dry_run.proofs.Outputs.{written_length, written_output, last_output}
use Rattle.net_dry_run.specs.DryRun.{played}
use Rattle.net_hop.specs.Hop.{ending_of}
use Rattle.mop_header.specs.Header.{head_of, telegram_of}
use lib.ListN.{length}
use native.Mathlib.Omega.{arith}
use mathlib.Core.Path.{◌≡◌, refl, ap}
use Rattle.net_dry_run.proofs.Leg.end.Goals as goal
use Rattle.net_dry_run.proofs.Leg.end.Goals.{After-unwrap-length}

-- the length of the telegram that is written
long : (c : After-unwrap-length) → (let s = c.args.self.now in c.unwrap-length.result ≡ length (telegram_of (head_of c.args.header s.block.now) s.body.now))
long c =
    let s = c.args.self.now in
    let is = written_length (telegram_of (head_of c.args.header s.block.now) s.body.now) c.args.out.now (omega arith) c.write.result c.write.ensures in
    cc

pub unwrap-length-requires : goal.unwrap-length-requires
unwrap-length-requires c =
    let s = c.args.self.now in
    rw (written_length (telegram_of (head_of c.args.header s.block.now) s.body.now) c.args.out.now (omega arith) c.write.result c.write.ensures) refl

pub slice_bounds-fill-count : goal.slice_bounds-fill-count
slice_bounds-fill-count c = let is = long (goal.at.slice_bounds-fill-count c).After-unwrap-length in omega arith

pub slice_bounds-fill-start : goal.slice_bounds-fill-start
slice_bounds-fill-start c = slice_bounds-fill-count c

pub returns-clause-result_value : goal.returns-clause-result_value
returns-clause-result_value c = ap (played c.args.count (ending_of c.args.ending)) (long (goal.at.returns-clause-result_value c).After-unwrap-length)

pub returns-clause-out_after : goal.returns-clause-out_after
returns-clause-out_after c =
    let s = c.args.self.now in
    let telegram = telegram_of (head_of c.args.header s.block.now) s.body.now in
    let output = written_output telegram c.args.out.now (omega arith) c.write.result c.write.ensures in
    last_output telegram c.args.out.now (omega arith) (omega arith) output (long (goal.at.returns-clause-out_after c).After-unwrap-length)
    (c.fill.ensures.after (λ y e. e))
