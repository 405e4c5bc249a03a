-- The answers of a barrier: their bytes, and what reading and writing them gives.
-- Assumes nothing.
use Rattle.std.specs.Prelude.{ℕ, zero, suc, Bool, true, false, List, [], ◌∷◌, ℤ, pos, negsuc, Result, Ok, Err, eqb, leb, length, get_or, drop}
use Rattle.base.specs.Choice.{pick}
use Rattle.base.specs.Filling.{Filling, denied, fitted}
use Rattle.signed.specs.Signed.{top8, top32, bits_of, signed_of, four_bytes, of_four}
use Rattle.gate_refusal.specs.Numbers.{number_of}
use Rattle.gate_refusal.specs.declared.GateRefusal.{GateRefusal}
use Rattle.gate_answers.specs.declared.BarrierAnswer.{BarrierAnswer}
use Rattle.gate_answers.specs.declared.BarrierAnswer.TheVariants.{Ack, Nak, Busy, Syn, Count, Position}

-- the kind of an answer is its first byte
abbrev pub ack : ℕ
ack = 0x01

abbrev pub nak : ℕ
nak = 0x02

abbrev pub busy : ℕ
busy = 0x03

abbrev pub syn : ℕ
syn = 0x04

-- the vehicle count
abbrev pub count : ℕ
count = 0x1C

-- the position of the beam
abbrev pub position : ℕ
position = 0x1D

-- a position is 0 to 100, in percent, or -1 where it is unknown
unfoldable pub is_position : ℤ → Bool
is_position (pos n) = leb n 100
is_position (negsuc zero) = true
is_position (negsuc (suc n)) = false

-- the bytes of an answer: its kind; behind that of a count four bytes, lowest first, and behind that of a position one
unfoldable pub answer_bytes : BarrierAnswer → List ℕ
answer_bytes Ack = ack ∷ []
answer_bytes Nak = nak ∷ []
answer_bytes Busy = busy ∷ []
answer_bytes Syn = syn ∷ []
answer_bytes (Count z) = count ∷ four_bytes (bits_of top32 z)
answer_bytes (Position z) = position ∷ bits_of top8 z ∷ []

-- whether an answer can be: a position is one, all else is good
unfoldable pub is_answer : BarrierAnswer → Bool
is_answer Ack = true
is_answer Nak = true
is_answer Busy = true
is_answer Syn = true
is_answer (Count z) = true
is_answer (Position z) = is_position z

-- what writing gives and leaves: 10 for a position that is none, then 11, else the bytes in the first places
unfoldable pub answer_writing : BarrierAnswer → List ℕ → Filling
answer_writing a out = pick (is_answer a) (fitted (answer_bytes a) out) (denied 10 out)

-- what reading gives: an answer, or a refusal, by its number
pub data Reading : Type 0 where
  reads : BarrierAnswer → Reading
  refuses : ℕ → Reading

abbrev pub reading_of : Result BarrierAnswer GateRefusal → Reading
reading_of (Ok a) = reads a
reading_of (Err r) = refuses (number_of r)

-- an answer that is so many bytes long, kind included; any other length is 7
abbrev pub sized : ℕ → List ℕ → Reading → Reading
sized n bs r = pick (eqb (length bs) n) r (refuses 7)

-- 10 for a position that is none
unfoldable pub position_at : ℤ → Reading
position_at z = pick (is_position z) (reads (Position z)) (refuses 10)

-- reading by the kind: no byte at all is 7, and an unknown kind 3
unfoldable pub kind_reading : ℕ → List ℕ → Reading
kind_reading k bs =
    pick (eqb k ack) (sized 1 bs (reads Ack))
    (pick (eqb k nak) (sized 1 bs (reads Nak))
    (pick (eqb k busy) (sized 1 bs (reads Busy))
    (pick (eqb k syn) (sized 1 bs (reads Syn))
    (pick (eqb k count) (sized 5 bs (reads (Count (signed_of top32 (of_four (drop 1 bs))))))
    (pick (eqb k position) (sized 2 bs (position_at (signed_of top8 (get_or bs 1 0)))) (refuses 3))))))

unfoldable pub answer_reading : List ℕ → Reading
answer_reading bs = pick (eqb (length bs) 0) (refuses 7) (kind_reading (get_or bs 0 0) bs)
