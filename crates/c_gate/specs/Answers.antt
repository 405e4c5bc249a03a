-- The calls of answers: hanraquin_gate_write_answer and hanraquin_gate_read_answer.
-- Assumes nothing.
use Rattle.std.specs.Prelude.{ℕ, List, [], ◌∷◌, ℤ, pos, eqb, length}
use Rattle.base.specs.Choice.{pick}
use Rattle.gate_answers.specs.Answers.{ack, nak, busy, syn, count, position, answer_writing, Reading, reads, refuses, position_at, answer_reading}
use Rattle.gate_answers.specs.declared.BarrierAnswer.{BarrierAnswer}
use Rattle.gate_answers.specs.declared.BarrierAnswer.TheVariants.{Ack, Nak, Busy, Syn, Count, Position}
use Rattle.c_answer.specs.Answer.{done, refused, Written, written, written_by}

-- the answer with a kind, which is its first byte, and a number, which only a count and a position have: 3 for an unknown kind,
-- 10 for a position that is none
unfoldable pub answer_at : ℕ → ℤ → Reading
answer_at k z =
    pick (eqb k ack) (reads Ack)
    (pick (eqb k nak) (reads Nak)
    (pick (eqb k busy) (reads Busy)
    (pick (eqb k syn) (reads Syn) (pick (eqb k count) (reads (Count z)) (pick (eqb k position) (position_at z) (refuses 3))))))

-- what is written of it
abbrev pub written_of : Reading → List ℕ → Written
written_of (reads a) out = written_by (answer_writing a out)
written_of (refuses k) out = written (refused k) out

-- hanraquin_gate_write_answer: that answer, as answer_writing says
unfoldable pub write_answer_call : ℕ → ℤ → List ℕ → Written
write_answer_call k z out = written_of (answer_at k z) out

-- the kind of an answer, and its number, 0 where it has none
abbrev pub kind_of : BarrierAnswer → ℕ
kind_of Ack = ack
kind_of Nak = nak
kind_of Busy = busy
kind_of Syn = syn
kind_of (Count z) = count
kind_of (Position z) = position

abbrev pub number_in : BarrierAnswer → ℤ
number_in Ack = pos 0
number_in Nak = pos 0
number_in Busy = pos 0
number_in Syn = pos 0
number_in (Count z) = z
number_in (Position z) = z

-- the answer of the call, and the number afterwards
pub record AnswerTold : Type 0 where
  pub answer : ℕ
  pub number : List ℤ

abbrev pub answer_told : ℕ → List ℤ → AnswerTold
answer_told r number = record { answer = r; number = number }

-- the value is the kind; a refusal leaves the number as it was
abbrev pub answer_told_by : Reading → List ℤ → AnswerTold
answer_told_by (reads a) number = answer_told (done (kind_of a)) (number_in a ∷ [])
answer_told_by (refuses k) number = answer_told (refused k) number

-- hanraquin_gate_read_answer: 1 where there is not one place for the number; else what is read
unfoldable pub read_answer_call : List ℕ → List ℤ → AnswerTold
read_answer_call bs number =
    pick (eqb (length number) 1) (answer_told_by (answer_reading bs) number) (answer_told (refused 1) number)
