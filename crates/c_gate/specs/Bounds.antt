-- How large the values of the calls of the gate bus are: far below 2^32, so that value and kind can be told apart.
-- Assumes nothing.
use Rattle.std.specs.Prelude.{ℕ, ◌≤◌, ◌<◌, ◌≡◌, true, List}
use Rattle.base.specs.Filling.{filled}
use Rattle.gate_refusal.specs.Numbers.{number_of}
use Rattle.gate_refusal.specs.declared.GateRefusal.{GateRefusal}
use Rattle.gate_telegram.specs.Telegram.{max_data, telegram_writing}
use Rattle.gate_receive.specs.Receive.{telegram, token, receive_of}
use Rattle.events.specs.declared.Event.{Event}
use Rattle.gate_commands.specs.Commands.{answers, operating, command_writing}
use Rattle.gate_commands.specs.declared.GateRegisters.{GateRegisters}
use Rattle.gate_answers.specs.Answers.{answer_writing}
use Rattle.gate_answers.specs.declared.BarrierAnswer.{BarrierAnswer}
use Rattle.c_answer.specs.Answer.{kinds, done, not_mine, refused}
use Rattle.c_gate.specs.Bus.{fits, state_at}
use Rattle.c_gate.specs.Answers.{kind_of}

-- the length of the longest telegram
abbrev pub max_telegram : ℕ
max_telegram = 259

pub record GateBounds : Type 0 where
  -- a refusal is neither "done", whose value is below 2^32, nor "not mine"
  pub from_done : (r : GateRefusal) (value : ℕ) → value < kinds → refused (number_of r) ≡ done value → ⊥
  pub from_not_mine : (r : GateRefusal) → refused (number_of r) ≡ not_mine → ⊥
  -- the lengths of what is written
  pub telegram_long : (d s : ℕ) (bs out : List ℕ) (n : ℕ) → (telegram_writing d s bs out).given ≡ filled n → n ≤ max_telegram
  pub command_long : (c f : ℕ) (out : List ℕ) (n : ℕ) → (command_writing c f out).given ≡ filled n → n ≤ 3
  pub answer_long : (a : BarrierAnswer) (out : List ℕ) (n : ℕ) → (answer_writing a out).given ≡ filled n → n ≤ 5
  -- what comes of an event at numbers that fit: source and number of data bytes are bytes, so a telegram is told from a token
  pub received : (own : ℕ) (w st : List ℕ) (e : Event) (out : List ℕ) (from n : ℕ) → fits w ≡ true →
      (receive_of own (state_at w) st e out).reaction.response ≡ telegram from n → (from ≤ 255) × (n ≤ max_data)
  pub passed_on : (own : ℕ) (w st : List ℕ) (e : Event) (out : List ℕ) (from : ℕ) → fits w ≡ true →
      (receive_of own (state_at w) st e out).reaction.response ≡ token from → from ≤ 255
  -- what a command is answered by, and the kinds of answers
  pub verdict : (r : GateRegisters) (bs : List ℕ) (b : ℕ) → (operating r bs).verdict ≡ answers b → b ≤ 2
  pub kind : (a : BarrierAnswer) → kind_of a ≤ 0x1D
