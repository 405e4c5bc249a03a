-- `is_mark`: the last three entries, then the first.
-- Assumes nothing.
use mathlib.Core.Path.{sym, ◌∙◌}
use native.Mathlib.Omega.{arith}
use Rattle.mop_reader.proofs.Marks.{second_not_mark, third_not_mark, fourth_not_mark, by_first}
use Rattle.mop_reader.proofs.is_mark.Goals as goal

pub returns-in-239-eq239-eq239 : goal.returns-in-239-eq239-eq239
returns-in-239-eq239-eq239 c = c.may_begin.ensures ∙ sym (by_first c.args.function c.args.a c.args.b c.args.c c.args.d (omega arith) (omega arith) (omega arith))

pub returns-in_default : goal.returns-in_default
returns-in_default c = sym (fourth_not_mark c.args.function c.args.a c.args.b c.args.c c.args.d (omega arith) (omega arith) (λ e. omega arith))

pub returns-in_default-2 : goal.returns-in_default-2
returns-in_default-2 c = sym (third_not_mark c.args.function c.args.a c.args.b c.args.c c.args.d (omega arith) (λ e. omega arith))

pub returns-in_default-3 : goal.returns-in_default-3
returns-in_default-3 c = sym (second_not_mark c.args.function c.args.a c.args.b c.args.c c.args.d (λ e. omega arith))
