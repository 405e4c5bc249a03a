-- `with_mark`: by the form.
-- Assumes nothing.
use Rattle.mop_header.specs.Header.{with_mark}
use Rattle.mop_header.proofs.with_mark.Goals as goal

pub returns-in-Standard : goal.returns-in-Standard
unfolding with_mark
returns-in-Standard c = rw c.in-Standard.is

pub returns-in-Extended : goal.returns-in-Extended
unfolding with_mark
returns-in-Extended c = rw c.in-Extended.is
