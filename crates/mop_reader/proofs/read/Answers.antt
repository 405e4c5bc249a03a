-- `read`: the tests in their order, and then the block where it stands in this form.
-- Assumes nothing.
use mathlib.Core.Path.{◌≡◌, sym, ◌∙◌, ap}
use mathlib.Core.Bool.{Bool}
use Prim.Native.Nat.{◌+◌, ◌-◌}
use native.Mathlib.Omega.{arith}
use lib.ListN.{get_or, drop, take-append-drop}
use Rattle.base.specs.Choice.{pick}
use Rattle.mop_reader.specs.Reading.{function_at, reading, extended_reading, standard_reading}
use Rattle.mop_reader.proofs.Readers.{some_taken, none_taken}
use Rattle.mop_reader.proofs.Steps.{too_long, cut, not_allowed, by_form, count_cut, count_small, count_large, block_cut, behind_mark, without_mark}
use Rattle.mop_reader.proofs.read.Goals as goal
use Rattle.mop_reader.proofs.read.Goals.{After-is_mark, then-count-lt2-via-then-count-lt2, then-count-lt2-via-else-count-lt2+then-count-gt-MAX_ENTRIES, then-is_mark+else-telegram-lt7+else-count-lt2+else-count-gt-MAX_ENTRIES+else-telegram-end, else-is_mark}

-- the three refusals and the form are behind: by whether the four entries are the mark
form_is : (s : After-is_mark) {marked : Bool} → s.is_mark.result ≡ marked →
    (let who = s.args.reader in let tg = s.args.telegram.now in
    reading who tg ≡ pick marked (extended_reading who tg) (standard_reading who tg))
form_is s e =
    let who = s.args.reader in
    let tg = s.args.telegram.now in
    by_form _ _ s.if-telegram-gt-MAX_TELEGRAM.false (omega arith) s.function_for.ensures s.in-Some.is s.is_mark.ensures
    ∙ ap (λ (marked : Bool). pick marked (extended_reading who tg) (standard_reading who tg)) e

pub returns-then-telegram-gt-MAX_TELEGRAM : goal.returns-then-telegram-gt-MAX_TELEGRAM
returns-then-telegram-gt-MAX_TELEGRAM c = sym (too_long _ _ c.if-telegram-gt-MAX_TELEGRAM.true)

pub returns-in_default : goal.returns-in_default
returns-in_default c = sym (cut _ _ c.if-telegram-gt-MAX_TELEGRAM.false (omega arith))

pub returns-in_default-function_for : goal.returns-in_default-function_for
returns-in_default-function_for c = sym (not_allowed _ _ c.if-telegram-gt-MAX_TELEGRAM.false (omega arith) (none_taken _ _ c.function_for.ensures c.in_default-function_for.is))

pub returns-then-telegram-lt7 : goal.returns-then-telegram-lt7
returns-then-telegram-lt7 c = sym (form_is (goal.at.returns-then-telegram-lt7 c).After-is_mark c.if-is_mark.true ∙ count_cut _ _ c.if-telegram-lt7.true)

pub returns-then-count-lt2 : goal.returns-then-count-lt2
returns-then-count-lt2 c =
    sym (form_is (goal.at.returns-then-count-lt2 c).After-is_mark c.if-is_mark.true
    ∙ elim c.then-count-lt2.branch [
      | then-count-lt2-via-then-count-lt2 w ↦ count_small _ _ (omega arith) w.if-count-lt2.true
      | then-count-lt2-via-else-count-lt2+then-count-gt-MAX_ENTRIES w ↦ count_large _ _ (omega arith) w.if-count-gt-MAX_ENTRIES.true
    ])

pub returns-then-telegram-end : goal.returns-then-telegram-end
returns-then-telegram-end c =
    sym (form_is (goal.at.returns-then-telegram-end c).After-is_mark c.if-is_mark.true ∙ block_cut _ _ (omega arith) (omega arith) (omega arith) c.if-telegram-end.true)

pub returns : goal.returns
unfolding function_at
returns c =
    let tg = c.args.telegram.now in
    let function = (some_taken _ _ c.function_for.ensures c.in-Some.is).1 in
    elim c.if-is_mark.branch [
      | then-is_mark+else-telegram-lt7+else-count-lt2+else-count-gt-MAX_ENTRIES+else-telegram-end w ↦
          let end : (7 + get_or tg 6 0) - 7 ≡ get_or tg 6 0 = omega arith in
          (rw (w.form-is, w.start-is, w.end-is, function, end) at (c.judge.ensures tg (drop (get_or tg 6 0) (drop 7 tg)))) (sym (take-append-drop (get_or tg 6 0) (drop 7 tg)))
          ∙ sym (form_is (goal.at.returns c).After-is_mark w.if-is_mark.true ∙ behind_mark _ tg w.if-telegram-lt7.false w.if-count-lt2.false w.if-count-gt-MAX_ENTRIES.false w.if-telegram-end.false)
      | else-is_mark w ↦
          (rw (w.form-is, w.start-is, w.end-is, function) at (c.judge.ensures tg (drop 4 (drop 2 tg)))) (sym (take-append-drop 4 (drop 2 tg)))
          ∙ sym (form_is (goal.at.returns c).After-is_mark w.if-is_mark.false ∙ without_mark _ tg)
    ]
