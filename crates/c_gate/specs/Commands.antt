-- The calls of operating commands: hanraquin_gate_operate and hanraquin_gate_write_command.
-- Assumes nothing.
use Rattle.std.specs.Prelude.{ℕ, Bool, true, false, ◌&&◌, List, [], ◌∷◌, eqb, leb, length}
use Rattle.base.specs.Choice.{pick}
use Rattle.gate_commands.specs.Commands.{Verdict, answers, refuses, Operation, commands, operating, command_writing}
use Rattle.gate_commands.specs.declared.GateRegisters.{GateRegisters}
use Rattle.c_answer.specs.Answer.{done, refused, Written, written_by}

-- levels and edges are numbers, 1 where one is set
abbrev pub bit_number : Bool → ℕ
bit_number true = 1
bit_number false = 0

unfoldable pub bit_numbers : List Bool → List ℕ
bit_numbers [] = []
bit_numbers (b ∷ bs) = bit_number b ∷ bit_numbers bs

unfoldable pub bits_at : List ℕ → List Bool
bits_at [] = []
bits_at (n ∷ ns) = eqb n 1 ∷ bits_at ns

unfoldable pub none_above1 : List ℕ → Bool
none_above1 [] = true
none_above1 (n ∷ ns) = leb n 1 && none_above1 ns

-- whether numbers are levels or edges: one for each command, and each 0 or 1
unfoldable pub is_bits : List ℕ → Bool
is_bits ns = eqb (length ns) commands && none_above1 ns

abbrev pub registers_at : List ℕ → List ℕ → GateRegisters
registers_at levels edges = record { levels = bits_at levels; edges = bits_at edges }

-- the value is the byte of the answer: 1 for ack, 2 for nak
abbrev pub of_verdict : Verdict → ℕ
of_verdict (answers b) = done b
of_verdict (refuses k) = refused k

-- the answer, and the levels and the edges afterwards
pub record Operated : Type 0 where
  pub answer : ℕ
  pub levels : List ℕ
  pub edges : List ℕ

abbrev pub operated : ℕ → List ℕ → List ℕ → Operated
operated r levels edges = record { answer = r; levels = levels; edges = edges }

abbrev pub operated_by : Operation → Operated
operated_by o = operated (of_verdict o.verdict) (bit_numbers o.registers.levels) (bit_numbers o.registers.edges)

-- hanraquin_gate_operate: 1 for levels or edges that are none, and all stays; else as operating says
unfoldable pub operate_call : List ℕ → List ℕ → List ℕ → Operated
operate_call bs levels edges =
    pick (is_bits levels && is_bits edges) (operated_by (operating (registers_at levels edges) bs)) (operated (refused 1) levels edges)

-- hanraquin_gate_write_command: as command_writing says
unfoldable pub write_command_call : ℕ → ℕ → List ℕ → Written
write_command_call c f out = written_by (command_writing c f out)
