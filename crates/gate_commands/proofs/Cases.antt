-- The cases of an operating command: the function of its byte, the command and its data.
-- Assumes nothing.
use mathlib.Core.Path.{◌≡◌}
use Prim.Native.Nat.{ℕ, ◌<◌}
use borrow.Author.Tests.{lt-ltb}
use Rattle.gate_commands.specs.Commands.{answers, operation, function_of, commands, carried_out, functioning, commanding}
use Rattle.std.specs.Prelude.{Some}
use Rattle.gate_commands.specs.declared.GateFunction.{GateFunction}
use Rattle.gate_commands.specs.declared.GateRegisters.{GateRegisters}

module _ (r : GateRegisters) (c f : ℕ) where
  pub command_known : {g : GateFunction} → c < commands → function_of f ≡ Some g →
      commanding r c f ≡ operation (answers 0x01) (carried_out r c g)
  unfolding commanding functioning
  command_known h e = rw (lt-ltb c commands h, e)
