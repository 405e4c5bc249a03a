-- Answers of a barrier, written and read back, both ways.
-- Assumes nothing.
use Rattle.std.specs.Prelude.{ℕ, ◌≡◌, List, take}
use Rattle.base.specs.Filling.{filled, fitted}
use Rattle.signed.specs.Signed.{top32}
use Rattle.signed.specs.Inverse.{FitsTop}
use Rattle.gate_answers.specs.Answers.{answer_writing, reads, answer_reading}
use Rattle.gate_answers.specs.declared.BarrierAnswer.{BarrierAnswer}
use Rattle.gate_answers.specs.declared.BarrierAnswer.TheVariants.{Ack, Nak, Busy, Syn, Count, Position}
use Rattle.gate_laws.specs.Bytes.{Bytes}

-- a vehicle count has 32 bits, as in the code; the other answers have nothing to fit
abbrev pub InWidth : BarrierAnswer → Type 0
InWidth Ack = Unit
InWidth Nak = Unit
InWidth Busy = Unit
InWidth Syn = Unit
InWidth (Count z) = FitsTop top32 z
InWidth (Position z) = Unit

-- reading what was written gives the answer that was written; n is the length that the writer gives back
abbrev pub AnswerReadsBack : Type 0
AnswerReadsBack =
    (a : BarrierAnswer) (out : List ℕ) (n : ℕ) → InWidth a → (answer_writing a out).given ≡ filled n →
    answer_reading (take n (answer_writing a out).output) ≡ reads a

-- writing what was read gives the bytes that were read, or 11
abbrev pub AnswerWritesBack : Type 0
AnswerWritesBack =
    (a : BarrierAnswer) (bs out : List ℕ) → Bytes bs → answer_reading bs ≡ reads a → answer_writing a out ≡ fitted bs out
