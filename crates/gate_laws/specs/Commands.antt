-- Operating commands, from the master that writes one to the barrier that carries it out.
-- Assumes nothing.
use Rattle.std.specs.Prelude.{ℕ, ◌≤◌, ◌≡◌, ◌⊎◌, List, [], ◌∷◌, length, get_or, take}
use Rattle.base.specs.Filling.{filled}
use Rattle.gate_telegram.specs.Telegram.{max_data, telegram_writing}
use Rattle.gate_receive.specs.declared.GateState.TheVariants.{Rest}
use Rattle.gate_commands.specs.Commands.{answers, commanding, operating, command_of, command_writing}
use Rattle.gate_commands.specs.declared.GateRegisters.{GateRegisters}
use Rattle.gate_answers.specs.Answers.{answer_bytes}
use Rattle.gate_answers.specs.declared.BarrierAnswer.TheVariants.{Ack, Nak}
use Rattle.gate_laws.specs.Feeding.{feed}

-- From here on c and f are command and function, and k is the length that the writer of commands gives back.

-- a command that is written is carried out with its two bytes
abbrev pub WrittenIsCarriedOut : Type 0
WrittenIsCarriedOut =
    (r : GateRegisters) (c f k : ℕ) (buf : List ℕ) → (command_writing c f buf).given ≡ filled k →
    operating r (take k (command_writing c f buf).output) ≡ commanding r c f

-- the other way round: data that is answered, by ack or by nak, is a command as it is written
abbrev pub CarriedOutIsWritten : Type 0
CarriedOutIsWritten =
    (r : GateRegisters) (bs : List ℕ) (b : ℕ) → (operating r bs).verdict ≡ answers b → bs ≡ command_of (get_or bs 1 0) (get_or bs 2 0)

-- and over the bus: written into a telegram of n bytes, which is fed to the barrier, a command is carried out from the first
-- places of the barrier's output
abbrev pub CommandArrives : Type 0
CommandArrives =
    (r : GateRegisters) (d s c f k n : ℕ) (small buf st out : List ℕ) → (command_writing c f small).given ≡ filled k →
    (telegram_writing d s (take k (command_writing c f small).output) buf).given ≡ filled n → length st ≡ max_data →
    k ≤ length out →
    operating r (take k (feed d Rest st out (take n (telegram_writing d s (take k (command_writing c f small).output) buf).output)).output)
    ≡ commanding r c f

-- what a command is answered by is an answer of the barrier: ack or nak
abbrev pub VerdictIsAnswer : Type 0
VerdictIsAnswer =
    (r : GateRegisters) (bs : List ℕ) (b : ℕ) → (operating r bs).verdict ≡ answers b →
    (b ∷ [] ≡ answer_bytes Ack) ⊎ (b ∷ [] ≡ answer_bytes Nak)
