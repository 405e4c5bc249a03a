-- `names_somebody`: some entry is no 00.
-- Assumes nothing.
use mathlib.Core.Path.{◌∙◌}
use mathlib.Core.Bool.{not}
use lib.Dec.{eqb}
use borrow.Author.Rules.{rules}
use borrow.Author.Tests.{tests}
use Rattle.std.proofs.lemmas.Iterator.{YieldsList-from_slice}
use Rattle.std.proofs.lemmas.Iterator.Search.{any_from_yields_List}
use Rattle.mop_block.proofs.Scan.{any_station}
use Rattle.mop_block.proofs.names_somebody.Goals as goal

pub returns : goal.returns
returns c =
    any_from_yields_List (λ a. not (eqb a 0)) _ _ _ c.any.ensures.ran (YieldsList-from_slice c.args.b.now cc) (λ x b q k. search (rules, tests))
    ∙ any_station c.args.b.now
