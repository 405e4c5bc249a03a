-- Numbers there and back: what is not done leaves them as they were, and the numbers of a state are taken again.
-- Assumes nothing.
use Rattle.std.specs.Prelude.{ℕ, ◌≤◌, ◌≡◌, true, List}
use Rattle.gate_receive.specs.Receive.{refuses, to, with, receive_of}
use Rattle.gate_receive.specs.declared.GateState.{GateState}
use Rattle.gate_commands.specs.Commands.{answers, operating}
use Rattle.c_answer.specs.Answer.{refused}
use Rattle.c_answer.specs.Event.{timer, event_at}
use Rattle.c_gate.specs.Bus.{state_words, state_at, fits, is_state, received, receive_call}
use Rattle.c_gate.specs.Commands.{is_bits, registers_at, of_verdict, operated, operate_call}

-- the numbers of a state whose fields fit are a state
abbrev pub StateTaken : Type 0
StateTaken = (s : GateState) → fits (state_words s) ≡ true → is_state (state_words s) ≡ true

-- where the receiver refuses with 1 and keeps all, so does the call, numbers and all
abbrev pub ReceiveKept : Type 0
ReceiveKept =
    (own : ℕ) (w st : List ℕ) (event : ℕ) (out : List ℕ) → event ≤ timer → is_state w ≡ true →
    receive_of own (state_at w) st (event_at event) out ≡ with (to (refuses 1) (state_at w)) st out →
    receive_call own w st event out ≡ received (refused 1) w st out

-- without ack, levels and edges are the very numbers that were handed in
abbrev pub OperateKept : Type 0
OperateKept =
    (bs levels edges : List ℕ) → is_bits levels ≡ true → is_bits edges ≡ true →
    (let o = operating (registers_at levels edges) bs in
    (o.verdict ≡ answers 1 → ⊥) → operate_call bs levels edges ≡ operated (of_verdict o.verdict) levels edges)
