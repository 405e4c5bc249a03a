-- `bits_from`: the tests of their number and of each, and then each is mapped to its level or edge.
-- Assumes nothing.
use mathlib.Core.Path.{◌≡◌, sym, ◌∙◌}
use mathlib.Core.Bool.{false}
use borrow.Author.Rules.{rules}
use Rattle.std.proofs.Common.{tests}
use lib.Dec.{eqb, leb}
use lib.ListN.{get_or}
use Rattle.std.proofs.lemmas.Iterator.{YieldsList-from_slice}
use Rattle.std.proofs.lemmas.Iterator.Search.{all_from_yields_List}
use Rattle.c_gate.specs.Commands.{is_bits, bits_at}
use Rattle.c_gate.proofs.Bits.{length_bits, bit_at, same_places, above_all, not_ten, of_ten}
use Rattle.c_gate.proofs.bits_from.Goals as goal
use Rattle.c_gate.proofs.bits_from.Goals.{After-all}

-- what the test of all shows
tested : (s : After-all) → s.all.result ≡ is_bits s.args.words.now
tested s =
    let whole = s.in_ok-words.ensures.cases in
    all_from_yields_List (λ n. leb n 1) _ _ _ s.all.ensures.ran (YieldsList-from_slice s.in_ok-words.words.now s.iter.ensures.rest) (λ x b q k. search (rules, tests))
    ∙ rw whole.same (above_all s.args.words.now ∙ sym (of_ten s.args.words.now whole.long))

pub returns-in_err-words : goal.returns-in_err-words
returns-in_err-words c = rw (c.from_residual.ensures, not_ten _ c.in_err-words.ensures.cases)

pub returns-then-all : goal.returns-then-all
returns-then-all c =
    let words = c.args.words.now in
    let whole = c.in_ok-words.ensures.cases in
    let is = sym (tested (goal.at.returns-then-all c).After-all) ∙ c.if-all.true in
    let mapped : c.map.result ≡ bits_at words =
    same_places false 10 c.map.ensures.items.long (length_bits words ∙ whole.long)
    (λ i h.
    let called = c.map.ensures.items.at i 0 false h in
    let is : get_or c.map.result i false ≡ eqb (get_or c.in_ok-words.words.now i 0) 1 = search rules in
    is ∙ rw whole.same (bit_at words i)) in
    rw (is, mapped)

pub returns-else-all : goal.returns-else-all
returns-else-all c =
    let is = sym (tested (goal.at.returns-else-all c).After-all) ∙ c.if-all.false in
    rw is
