-- What holds of every operating command.
-- Assumes nothing.
use Rattle.std.specs.Prelude.{ℕ, ◌<◌, ◌≡◌, Bool, true, false, List, length, get_or}
use Rattle.gate_commands.specs.Commands.{answers, pair, commands, operating, command_of}
use Rattle.gate_commands.specs.declared.GatePair.{GatePair}
use Rattle.gate_commands.specs.declared.GateRegisters.{GateRegisters}

-- the level and the edge at a place
abbrev pub level_at : GateRegisters → ℕ → Bool
level_at r i = get_or r.levels i false

abbrev pub edge_at : GateRegisters → ℕ → Bool
edge_at r i = get_or r.edges i false

-- whatever the data, an edge that is set stays set
abbrev pub EdgesOnlySet : Type 0
EdgesOnlySet = (r : GateRegisters) (bs : List ℕ) (i : ℕ) → edge_at r i ≡ true → edge_at (operating r bs).registers i ≡ true

-- a pulse changes no level, whatever the command
abbrev pub PulseKeepsLevels : Type 0
PulseKeepsLevels = (r : GateRegisters) (c : ℕ) → (operating r (command_of c 0x00)).registers.levels ≡ r.levels

-- registers that differ at one place at most
pub record OnlyAt (place : ℕ) (before after : GateRegisters) : Type 0 where
  pub levels_long : length after.levels ≡ length before.levels
  pub edges_long : length after.edges ≡ length before.edges
  pub level_kept : (i : ℕ) → (i ≡ place → ⊥) → level_at after i ≡ level_at before i
  pub edge_kept : (i : ℕ) → (i ≡ place → ⊥) → edge_at after i ≡ edge_at before i

-- whatever the data, only the registers of the command that its second byte names may change
abbrev pub OnlyNamedChanges : Type 0
OnlyNamedChanges = (r : GateRegisters) (bs : List ℕ) → OnlyAt (get_or bs 1 0) r (operating r bs).registers

-- what is not answered by ack changes nothing
abbrev pub NotAckKeepsAll : Type 0
NotAckKeepsAll =
    (r : GateRegisters) (bs : List ℕ) → ((operating r bs).verdict ≡ answers 0x01 → ⊥) → (operating r bs).registers ≡ r

-- the level and the edge of a command, after its data with a function byte
abbrev pub pair_after : GateRegisters → ℕ → ℕ → GatePair
pair_after r c f = let after = (operating r (command_of c f)).registers in pair (level_at after c) (edge_at after c)

-- the six rows of the table by their bytes, for a command whose level was off, 0, or on, 1
pub record Rows (r : GateRegisters) (c : ℕ) : Type 0 where
  pub pulse_off : level_at r c ≡ false → pair_after r c 0x00 ≡ pair false true
  pub activate_off : level_at r c ≡ false → pair_after r c 0x01 ≡ pair true true
  pub deactivate_off : level_at r c ≡ false → pair_after r c 0x02 ≡ pair false (edge_at r c)
  pub pulse_on : level_at r c ≡ true → pair_after r c 0x00 ≡ pair true (edge_at r c)
  pub activate_on : level_at r c ≡ true → pair_after r c 0x01 ≡ pair true (edge_at r c)
  pub deactivate_on : level_at r c ≡ true → pair_after r c 0x02 ≡ pair false (edge_at r c)

-- for every command that there is
abbrev pub TableRows : Type 0
TableRows =
    (r : GateRegisters) (c : ℕ) → length r.levels ≡ commands → length r.edges ≡ commands → c < commands → Rows r c
