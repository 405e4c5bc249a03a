-- What holds of every operating command, case by case of the table.
-- Assumes nothing.
use Prim.Native.Nat.{ℕ, zero, suc, ◌<◌}
use mathlib.Core.Path.{◌≡◌, refl, ap₂, ◌∙◌}
use mathlib.Core.Bool.{Bool, true, false, not}
use mathlib.Core.List.{List, [], ◌∷◌}
use native.Mathlib.Omega.{arith}
use lib.Dec.{eqb, ltb}
use lib.ListN.{length, get_or, set, length-set}
use lib.Seq.{get_or-set_same, get_or-set_other, set-get_or}
use Rattle.base.proofs.Choice.{pick_either}
use Rattle.gate_commands.specs.Commands.{Verdict, Operation, answers, refuses, operation, pair, after, function_of, commands, carried_out, functioning, commanding, operate_byte, operating, command_of}
use Rattle.gate_commands.specs.Safety.{level_at, edge_at, pair_after, EdgesOnlySet, PulseKeepsLevels, OnlyAt, OnlyNamedChanges, NotAckKeepsAll, Rows, TableRows}
use Rattle.std.specs.Prelude.{Option, Some, None}
use Rattle.gate_commands.specs.declared.GateFunction.{GateFunction}
use Rattle.gate_commands.specs.declared.GateFunction.TheVariants.{Pulse, Activate, Deactivate}
use Rattle.gate_commands.specs.declared.GateRegisters.{GateRegisters}
use Rattle.gate_commands.proofs.Cases.{command_known}

-- two columns of the table: the edge after, and the level after a pulse
after_edge : (l : Bool) (f : GateFunction) (e : Bool) → e ≡ true → (after l f e).edge ≡ true
after_edge false Pulse e h = refl
after_edge false Activate e h = refl
after_edge false Deactivate e h = h
after_edge true Pulse e h = h
after_edge true Activate e h = h
after_edge true Deactivate e h = h

after_pulse : (l e : Bool) → (after l Pulse e).level ≡ l
after_pulse false e = refl
after_pulse true e = refl

-- a store that clears nothing keeps what is set
set_keeps : (l : List Bool) (c i : ℕ) (v : Bool) → (get_or l c false ≡ true → v ≡ true) → get_or l i false ≡ true →
    get_or (set l c v) i false ≡ true
set_keeps [] c i v h e = e
set_keeps (b ∷ l) zero zero v h e = h e
set_keeps (b ∷ l) zero (suc i) v h e = e
set_keeps (b ∷ l) (suc c) zero v h e = e
set_keeps (b ∷ l) (suc c) (suc i) v h e = set_keeps l c i v h e

module _ (r : GateRegisters) (c : ℕ) where
  -- three of the laws, of an operation on registers r that names command c
  record Lawful (o : Operation) : Type 0 where
    only : OnlyAt c r o.registers
    keeps_edges : (i : ℕ) → edge_at r i ≡ true → edge_at o.registers i ≡ true
    keeps_all : (o.verdict ≡ answers 0x01 → ⊥) → o.registers ≡ r

  as_before : (v : Verdict) → Lawful (operation v r)
  as_before v = record {
    only = record { levels_long = refl; edges_long = refl; level_kept = λ i h. refl; edge_kept = λ i h. refl };
    keeps_edges = λ i h. h;
    keeps_all = λ n. refl;
  }

  carried_out_lem : (f : GateFunction) → Lawful (operation (answers 0x01) (carried_out r c f))
  unfolding carried_out
  carried_out_lem f = record {
    only = record {
      levels_long = length-set r.levels c _;
      edges_long = length-set r.edges c _;
      level_kept = λ i h. get_or-set_other r.levels c i _ false h;
      edge_kept = λ i h. get_or-set_other r.edges c i _ false h;
    };
    keeps_edges = λ i h. set_keeps r.edges c i _ (after_edge (level_at r c) f (edge_at r c)) h;
    keeps_all = λ n. absurd (n refl);
  }

  function_lawful : (f : Option GateFunction) → Lawful (functioning r c f)
  unfolding functioning
  function_lawful (Some f) = carried_out_lem f
  function_lawful None = as_before (answers 0x02)

operating_lawful : (r : GateRegisters) (bs : List ℕ) → Lawful r (get_or bs 1 0) (operating r bs)
unfolding operating commanding
operating_lawful r bs =
    let c = get_or bs 1 0 in
    pick_either (Lawful r c) (not (eqb (length bs) 3))
    (as_before r c (refuses 7))
    (pick_either (Lawful r c) (not (eqb (get_or bs 0 0) operate_byte))
    (as_before r c (refuses 3))
    (pick_either (Lawful r c) (ltb c commands) (function_lawful r c (function_of (get_or bs 2 0))) (as_before r c (answers 0x02))))

pub edges_only_set : EdgesOnlySet
edges_only_set r bs = (operating_lawful r bs).keeps_edges

pub only_named_changes : OnlyNamedChanges
only_named_changes r bs = (operating_lawful r bs).only

pub not_ack_keeps_all : NotAckKeepsAll
not_ack_keeps_all r bs = (operating_lawful r bs).keeps_all

-- a command as it is written
pub command_carried_out : (r : GateRegisters) (c f : ℕ) → operating r (command_of c f) ≡ commanding r c f
unfolding operating
command_carried_out r c f = refl

pub pulse_keeps_levels : PulseKeepsLevels
unfolding operating commanding function_of functioning carried_out
pulse_keeps_levels r c =
    pick_either (λ (o : Operation). o.registers.levels ≡ r.levels) (ltb c commands)
    (rw (after_pulse (level_at r c) (edge_at r c)) (set-get_or r.levels c false))
    refl

module _ (r : GateRegisters) (c : ℕ) (levels : c < length r.levels) (edges : c < length r.edges) (there : c < commands) where
  -- the registers of a command after it, for a byte that is a function
  becomes : (b : ℕ) (f : GateFunction) → function_of b ≡ Some f → pair_after r c b ≡ after (level_at r c) f (edge_at r c)
  unfolding carried_out
  becomes b f e =
      rw (command_carried_out r c b, command_known r c b there e)
      (ap₂ pair (get_or-set_same r.levels c _ false levels) (get_or-set_same r.edges c _ false edges))

  rows : Rows r c
  unfolding function_of
  rows = record {
    pulse_off = λ h. becomes 0x00 Pulse refl ∙ rw h;
    activate_off = λ h. becomes 0x01 Activate refl ∙ rw h;
    deactivate_off = λ h. becomes 0x02 Deactivate refl ∙ rw h;
    pulse_on = λ h. becomes 0x00 Pulse refl ∙ rw h;
    activate_on = λ h. becomes 0x01 Activate refl ∙ rw h;
    deactivate_on = λ h. becomes 0x02 Deactivate refl ∙ rw h;
  }

pub table_rows : TableRows
table_rows r c levels edges there = rows r c (omega arith) (omega arith) there
