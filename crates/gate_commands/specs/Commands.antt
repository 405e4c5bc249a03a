-- The operating commands of a barrier: what each does to its level and its edge register, and what it is answered by. The
-- commands are 00 BT, 01 BA, 02 BZ and 03 BS, and 04 to 09 for the multifunction relays 1 to 6. The "level register" of a
-- command says whether it is held, and its "edge register" that it was given and not yet acted on.
-- Assumes nothing.
use Rattle.std.specs.Prelude.{ℕ, Bool, true, false, not, List, [], ◌∷◌, Option, Some, None, Result, Ok, Err, eqb, ltb, length, get_or, set}
use Rattle.base.specs.Choice.{pick}
use Rattle.base.specs.Filling.{Filling, fitted}
use Rattle.gate_refusal.specs.Numbers.{number_of}
use Rattle.gate_refusal.specs.declared.GateRefusal.{GateRefusal}
use Rattle.gate_commands.specs.declared.GateRegisters.{GateRegisters}
use Rattle.gate_commands.specs.declared.GateFunction.{GateFunction}
use Rattle.gate_commands.specs.declared.GateFunction.TheVariants.{Pulse, Activate, Deactivate}
use Rattle.gate_commands.specs.declared.GatePair.{GatePair}
use Rattle.gate_commands.specs.declared.OperateAnswer.{OperateAnswer}
use Rattle.gate_commands.specs.declared.OperateAnswer.TheVariants.{Ack, Nak}
use Rattle.gate_commands.specs.declared.Operated.{Operated}

abbrev pub pair : Bool → Bool → GatePair
pair l e = record { level = l; edge = e }

-- the table: the level before, the function, and the edge before; then level and edge after. A "pulse" gives a command
-- without holding it
abbrev pub after : Bool → GateFunction → Bool → GatePair
after false Pulse e = pair false true
after false Activate e = pair true true
after false Deactivate e = pair false e
after true Pulse e = pair true e
after true Activate e = pair true e
after true Deactivate e = pair false e

-- the function of a byte: 00 pulse, 01 activate, 02 deactivate
unfoldable pub function_of : ℕ → Option GateFunction
function_of b =
    pick (eqb b 0x00) (Some Pulse) (pick (eqb b 0x01) (Some Activate) (pick (eqb b 0x02) (Some Deactivate) None))

-- the commands are 00 to 09; the registers of command c stand at place c, and no others change
abbrev pub commands : ℕ
commands = 10

unfoldable pub carried_out : GateRegisters → ℕ → GateFunction → GateRegisters
carried_out r c f =
    let p = after (get_or r.levels c false) f (get_or r.edges c false) in
    record { levels = set r.levels c p.level; edges = set r.edges c p.edge }

-- what is answered: a byte, 01 for ack and 02 for nak; or a refusal, by its number
pub data Verdict : Type 0 where
  answers : ℕ → Verdict
  refuses : ℕ → Verdict

abbrev pub verdict_of : Result OperateAnswer GateRefusal → Verdict
verdict_of (Ok Ack) = answers 0x01
verdict_of (Ok Nak) = answers 0x02
verdict_of (Err r) = refuses (number_of r)

-- the answer, and the registers afterwards
pub record Operation : Type 0 where
  pub verdict : Verdict
  pub registers : GateRegisters

abbrev pub operation : Verdict → GateRegisters → Operation
operation v r = record { verdict = v; registers = r }

abbrev pub operation_of : Operated → Operation
operation_of o = operation (verdict_of o.answer) o.registers

-- a function that there is is carried out and answered by ack, another byte by nak
unfoldable pub functioning : GateRegisters → ℕ → Option GateFunction → Operation
functioning r c (Some f) = operation (answers 0x01) (carried_out r c f)
functioning r c None = operation (answers 0x02) r

-- a command that there is not is answered by nak
unfoldable pub commanding : GateRegisters → ℕ → ℕ → Operation
commanding r c f = pick (ltb c commands) (functioning r c (function_of f)) (operation (answers 0x02) r)

-- the first byte of an operating command
abbrev pub operate_byte : ℕ
operate_byte = 0x01

-- an operating command has three bytes, else 7; the first is 01, else 3; the others are command and function
unfoldable pub operating : GateRegisters → List ℕ → Operation
operating r bs =
    pick (not (eqb (length bs) 3)) (operation (refuses 7) r)
    (pick (not (eqb (get_or bs 0 0) operate_byte)) (operation (refuses 3) r) (commanding r (get_or bs 1 0) (get_or bs 2 0)))

-- a command as it is written, its two bytes as given
abbrev pub command_of : ℕ → ℕ → List ℕ
command_of c f = operate_byte ∷ c ∷ f ∷ []

unfoldable pub command_writing : ℕ → ℕ → List ℕ → Filling
command_writing c f out = fitted (command_of c f) out
