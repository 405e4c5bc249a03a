-- `has_mark`: by the form.
-- Assumes nothing.
use Rattle.mop_header.specs.Header.{mark_is}
use Rattle.mop_header.proofs.has_mark.Goals as goal

pub returns-in-Standard : goal.returns-in-Standard
unfolding mark_is
returns-in-Standard c = rw c.in-Standard.is

pub returns-in-Extended : goal.returns-in-Extended
unfolding mark_is
returns-in-Extended c = rw c.in-Extended.is
