-- `write_part`: a part with no DLE is its own doubled form, and one of nothing but DLE a run of them.
-- Assumes nothing.
use mathlib.Core.Path.{◌≡◌, sym, ◌∙◌}
use native.Mathlib.Omega.{arith}
use lib.ListN.{length}
use Rattle.link_frame.proofs.Doubling.{dles, dles_counted, length_doubled, plain, run}
use Rattle.link_frame.proofs.write_part.Goals as goal

pub write_whole-requires : goal.write_whole-requires
write_whole-requires c = omega (arith, length_doubled c.args.part.now)

pub returns-in-0 : goal.returns-in-0
returns-in-0 c =
    let test = c in
    let part = test.args.part.now in
    c.write_whole.ensures ∙ rw (plain part (dles_counted part ∙ sym test.count_dles.ensures ∙ test.in-0.is))

pub write_run-requires : goal.write_run-requires
write_run-requires c = let part = c.args.part.now in omega (arith, length_doubled part, dles_counted part, c.in-16.is)

pub returns-in-16 : goal.returns-in-16
returns-in-16 c =
    let test = c in
    let part = test.args.part.now in
    let long : length part ≡ 16 = omega arith in
    let all : dles part ≡ length part = omega (arith, dles_counted part, test.in-16.is) in
    c.write_run.ensures ∙ rw (run part all) (rw long)
