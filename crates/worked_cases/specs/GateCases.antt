-- The worked cases of the gate bus, as one table.
-- Assumes nothing.
use Rattle.std.specs.Prelude.{ℕ, ◌≡◌, Bool, true, false, List, [], ◌∷◌, ◌++◌, pos, negsuc, length, replicate, set}
use Rattle.base.specs.Filling.{Filling, filled, denied}
use Rattle.crc16.specs.Ccitt.{ccitt_start, ccitt_over}
use Rattle.gate_telegram.specs.Telegram.{max_data, telegram_writing}
use Rattle.gate_receive.specs.Receive.{Response, nothing, telegram, token, refuses, with, to, receive_of}
use Rattle.gate_receive.specs.declared.GateState.{GateState}
use Rattle.gate_receive.specs.declared.GateState.TheVariants.{Rest, AtDestination, AtSource, AtLength, AtData, AtLowCheck, OthersSource, OthersLength, Dropping}
use Rattle.events.specs.declared.Event.{Event}
use Rattle.events.specs.declared.Event.TheVariants.{Byte, Timer}
use Rattle.gate_commands.specs.Commands.{Verdict, answers, operation, operating, command_of}
use Rattle.gate_commands.specs.Commands as commands
use Rattle.gate_commands.specs.declared.GateRegisters.{GateRegisters}
use Rattle.gate_answers.specs.Answers.{answer_writing, Reading, reads, answer_reading}
use Rattle.gate_answers.specs.Answers as barrier
use Rattle.gate_answers.specs.declared.BarrierAnswer.{BarrierAnswer}
use Rattle.gate_answers.specs.declared.BarrierAnswer.TheVariants.{Ack, Nak, Busy, Syn, Count, Position}
use Rattle.gate_laws.specs.Feeding.{Fed, feed}

-- levels or edges that are all 0, or all but that of one command
abbrev pub all_clear : List Bool
all_clear = replicate 10 false

abbrev pub only_of : ℕ → List Bool
only_of c = set all_clear c true

abbrev pub registers : List Bool → List Bool → GateRegisters
registers levels edges = record { levels = levels; edges = edges }

-- a store before anything was stored
abbrev pub empty_store : List ℕ
empty_store = replicate max_data 0

-- what is seen of a receiver that was fed, beside its store
pub record Heard : Type 0 where
  pub answers : List Response
  pub output : List ℕ
  pub state : GateState

abbrev pub heard_of : Fed → Heard
heard_of f = record { answers = f.answers; output = f.output; state = f.state }

-- an answer of a barrier, written and read
pub record BothWays : Type 0 where
  pub writing : Filling
  pub reading : Reading

abbrev pub both_ways : Filling → Reading → BothWays
both_ways w r = record { writing = w; reading = r }

pub data GateCase : Type 0 where
  -- bytes, and their check
  checks : List ℕ → ℕ → GateCase
  -- destination, source, data, and the telegram that is written into an output with one more place, which keeps its value; or the
  -- places of an output, and the number of the refusal
  writes : ℕ → ℕ → List ℕ → List ℕ → GateCase
  no_write : ℕ → ℕ → List ℕ → ℕ → ℕ → GateCase
  -- an own address, the places of an output that holds zeros, bytes fed to a fresh receiver, its answers, and the output
  -- afterwards; the receiver is fresh again
  hears : ℕ → ℕ → List ℕ → List Response → List ℕ → GateCase
  -- an own address, a state, an event, the answer, and the state afterwards; store and output stay
  turns : ℕ → GateState → Event → Response → GateState → GateCase
  -- the places of a store with which every event is refused with 1
  no_store : ℕ → Event → GateCase
  -- registers, an operating command, what is answered, and the registers afterwards
  operates : GateRegisters → List ℕ → Verdict → GateRegisters → GateCase
  -- an answer that is written as these bytes, and read from them
  answered : BarrierAnswer → List ℕ → GateCase
  -- bytes that are not read, and an answer that is not written into so many places; and the number of the refusal
  no_read : List ℕ → ℕ → GateCase
  no_answer : BarrierAnswer → ℕ → ℕ → GateCase

-- what a case says of the calls
abbrev pub GateHolds : GateCase → Type 0
GateHolds (checks bs c) = ccitt_over ccitt_start bs ≡ c
GateHolds (writes d s bs tg) =
    telegram_writing d s bs (replicate (length tg) 0 ++ (0x07 ∷ [])) ≡ record { given = filled (length tg); output = tg ++ (0x07 ∷ []) }
GateHolds (no_write d s bs places k) = telegram_writing d s bs (replicate places 0) ≡ denied k (replicate places 0)
GateHolds (hears own places bs rs out) = heard_of (feed own Rest empty_store (replicate places 0) bs) ≡ record { answers = rs; output = out; state = Rest }
GateHolds (turns own s e r next) = receive_of own s empty_store e [] ≡ with (to r next) empty_store []
GateHolds (no_store places e) = receive_of 0x10 Rest (replicate places 0) e [] ≡ with (to (refuses 1) Rest) (replicate places 0) []
GateHolds (operates r bs v after) = operating r bs ≡ operation v after
GateHolds (answered a bs) =
    both_ways (answer_writing a (replicate (length bs) 0)) (answer_reading bs) ≡ both_ways (record { given = filled (length bs); output = bs }) (reads a)
GateHolds (no_read bs k) = answer_reading bs ≡ barrier.refuses k
GateHolds (no_answer a places k) = answer_writing a (replicate places 0) ≡ denied k (replicate places 0)

abbrev pub gate_cases : List GateCase
gate_cases =
    -- the check of the nine digits 1 to 9
    checks (0x31 ∷ 0x32 ∷ 0x33 ∷ 0x34 ∷ 0x35 ∷ 0x36 ∷ 0x37 ∷ 0x38 ∷ 0x39 ∷ []) 0x29B1
    -- BA activate from master 00 to barrier 10; the token from master 00 to 01; the query of a position; a source that is the
    -- destination
    ∷ writes 0x10 0x00 (0x01 ∷ 0x01 ∷ 0x01 ∷ []) (0x55 ∷ 0x10 ∷ 0x00 ∷ 0x03 ∷ 0x01 ∷ 0x01 ∷ 0x01 ∷ 0xF7 ∷ 0x86 ∷ [])
    ∷ writes 0x01 0x00 [] (0x55 ∷ 0x01 ∷ 0x00 ∷ 0x00 ∷ 0x7A ∷ 0x8E ∷ [])
    ∷ writes 0x10 0x00 (0x02 ∷ 0x18 ∷ 0x00 ∷ []) (0x55 ∷ 0x10 ∷ 0x00 ∷ 0x03 ∷ 0x02 ∷ 0x18 ∷ 0x00 ∷ 0x07 ∷ 0x1C ∷ [])
    ∷ writes 0x20 0x20 (0x07 ∷ []) (0x55 ∷ 0x20 ∷ 0x20 ∷ 0x01 ∷ 0x07 ∷ 0xD5 ∷ 0x37 ∷ [])
    -- address FF, before all else; a token to a slave, and from one; 254 bytes, before the output; an output one place short
    ∷ no_write 0xFF 0x00 (replicate 254 0) 0 16
    ∷ no_write 0x10 0xFF (0x01 ∷ []) 9 16
    ∷ no_write 0x10 0x00 [] 9 16
    ∷ no_write 0x00 0x10 [] 9 16
    ∷ no_write 0x10 0x00 (replicate 254 0) 0 7
    ∷ no_write 0x10 0x00 (0x01 ∷ 0x01 ∷ 0x01 ∷ []) 8 11
    -- received by barrier 10, with exact room; the token by master 01, with no room at all; by barrier 55, whose address looks like
    -- the start byte
    ∷ hears 0x10 3 (0x55 ∷ 0x10 ∷ 0x00 ∷ 0x03 ∷ 0x01 ∷ 0x01 ∷ 0x01 ∷ 0xF7 ∷ 0x86 ∷ []) (replicate 8 nothing ++ (telegram 0x00 3 ∷ [])) (0x01 ∷ 0x01 ∷ 0x01 ∷ [])
    ∷ hears 0x01 0 (0x55 ∷ 0x01 ∷ 0x00 ∷ 0x00 ∷ 0x7A ∷ 0x8E ∷ []) (replicate 5 nothing ++ (token 0x00 ∷ [])) []
    ∷ hears 0x55 2 (0x55 ∷ 0x55 ∷ 0x00 ∷ 0x01 ∷ 0x01 ∷ 0xCD ∷ 0x07 ∷ []) (replicate 6 nothing ++ (telegram 0x00 1 ∷ [])) (0x01 ∷ 0x00 ∷ [])
    -- two bytes that are skipped; a telegram for barrier 11 that holds 55 10 00, where nothing begins; then one for barrier 10
    ∷ hears 0x10 3 (0x00 ∷ 0xFF ∷ 0x55 ∷ 0x11 ∷ 0x00 ∷ 0x03 ∷ 0x55 ∷ 0x10 ∷ 0x00 ∷ 0x10 ∷ 0x4B ∷ 0x55 ∷ 0x10 ∷ 0x00 ∷ 0x03 ∷ 0x01 ∷ 0x01 ∷ 0x01 ∷ 0xF7 ∷ 0x86 ∷ [])
    (replicate 19 nothing ++ (telegram 0x00 3 ∷ [])) (0x01 ∷ 0x01 ∷ 0x01 ∷ [])
    -- the source FF
    ∷ hears 0x10 1 (0x55 ∷ 0x10 ∷ 0xFF ∷ 0x01 ∷ 0x01 ∷ 0xD0 ∷ 0xBD ∷ []) (replicate 6 nothing ++ (refuses 16 ∷ [])) (0x00 ∷ [])
    -- a check with a wrong low byte, and with a wrong high byte, of which nothing is said before the low one; an output one place short; 254 bytes, refused at once, and the next telegram is received
    ∷ hears 0x10 3 (0x55 ∷ 0x10 ∷ 0x00 ∷ 0x03 ∷ 0x01 ∷ 0x01 ∷ 0x01 ∷ 0xF7 ∷ 0x87 ∷ []) (replicate 8 nothing ++ (refuses 15 ∷ [])) (0x00 ∷ 0x00 ∷ 0x00 ∷ [])
    ∷ hears 0x10 3 (0x55 ∷ 0x10 ∷ 0x00 ∷ 0x03 ∷ 0x01 ∷ 0x01 ∷ 0x01 ∷ 0xF6 ∷ 0x86 ∷ []) (replicate 8 nothing ++ (refuses 15 ∷ [])) (0x00 ∷ 0x00 ∷ 0x00 ∷ [])
    ∷ hears 0x10 2 (0x55 ∷ 0x10 ∷ 0x00 ∷ 0x03 ∷ 0x01 ∷ 0x01 ∷ 0x01 ∷ 0xF7 ∷ 0x86 ∷ []) (replicate 8 nothing ++ (refuses 11 ∷ [])) (0x00 ∷ 0x00 ∷ [])
    ∷ hears 0x10 3 (0x55 ∷ 0x10 ∷ 0x00 ∷ 0xFE ∷ 0x55 ∷ 0x10 ∷ 0x00 ∷ 0x03 ∷ 0x01 ∷ 0x01 ∷ 0x01 ∷ 0xF7 ∷ 0x86 ∷ [])
    (nothing ∷ nothing ∷ nothing ∷ refuses 7 ∷ (replicate 8 nothing ++ (telegram 0x00 3 ∷ []))) (0x01 ∷ 0x01 ∷ 0x01 ∷ [])
    -- a token to barrier 10, and one from it
    ∷ hears 0x10 0 (0x55 ∷ 0x10 ∷ 0x00 ∷ 0x00 ∷ 0x0E ∷ 0xDD ∷ []) (replicate 5 nothing ++ (refuses 16 ∷ [])) []
    ∷ hears 0x00 0 (0x55 ∷ 0x00 ∷ 0x10 ∷ 0x00 ∷ 0x4E ∷ 0xCD ∷ []) (replicate 5 nothing ++ (refuses 16 ∷ [])) []
    -- such a token is judged by the destination that was kept, whatever the own address of the last call
    ∷ turns 0x01 (AtLowCheck 0x10 0x00 0 0x0EDD 0x0E) (Byte 0xDD) (refuses 16) Rest
    -- 255 bytes for us; a telegram for another of 255 bytes, one for FF, and what is dropped, also where nothing is left
    ∷ turns 0x10 (AtLength 0x10 0x00 0x7AD1) (Byte 0xFF) (refuses 7) Rest
    ∷ turns 0x10 OthersLength (Byte 0xFF) nothing (Dropping 257)
    ∷ turns 0x10 AtDestination (Byte 0xFF) nothing OthersSource
    ∷ turns 0x10 (Dropping 2) (Byte 0x55) nothing (Dropping 1)
    ∷ turns 0x10 (Dropping 1) (Byte 0x55) nothing Rest
    ∷ turns 0x10 (Dropping 0) (Byte 0x55) nothing Rest
    -- the timer in a telegram for us, and in one for another
    ∷ turns 0x10 (AtData 0x10 0x00 3 1 0x1234) Timer nothing Rest
    ∷ turns 0x10 (Dropping 257) Timer nothing Rest
    -- the own address FF, at rest and for the timer too
    ∷ turns 0xFF Rest (Byte 0x00) (refuses 16) Rest
    ∷ turns 0xFF (AtSource 0x10 0xFE74) Timer (refuses 16) Rest
    -- states that count too much, before the own address and the timer: more stored than the length, a length over 253, and more left
    -- to drop than there can be; and a store of another length
    ∷ turns 0xFF (AtData 0x10 0x00 3 4 0) Timer (refuses 1) (AtData 0x10 0x00 3 4 0)
    ∷ turns 0x10 (AtLowCheck 0x10 0x00 254 0 0) (Byte 0x00) (refuses 1) (AtLowCheck 0x10 0x00 254 0 0)
    ∷ turns 0x10 (Dropping 258) Timer (refuses 1) (Dropping 258)
    ∷ no_store 252 (Byte 0x55)
    ∷ no_store 254 Timer
    -- BA, command 01: pulse, activate and deactivate at level 0, and at level 1
    ∷ operates (registers all_clear all_clear) (command_of 0x01 0x00) (answers 0x01) (registers all_clear (only_of 1))
    ∷ operates (registers all_clear all_clear) (command_of 0x01 0x01) (answers 0x01) (registers (only_of 1) (only_of 1))
    ∷ operates (registers all_clear (only_of 1)) (command_of 0x01 0x02) (answers 0x01) (registers all_clear (only_of 1))
    ∷ operates (registers (only_of 1) all_clear) (command_of 0x01 0x00) (answers 0x01) (registers (only_of 1) all_clear)
    ∷ operates (registers (only_of 1) all_clear) (command_of 0x01 0x01) (answers 0x01) (registers (only_of 1) all_clear)
    ∷ operates (registers (only_of 1) (only_of 1)) (command_of 0x01 0x02) (answers 0x01) (registers all_clear (only_of 1))
    -- an unknown command, and an unknown function; two bytes, before their kind; another kind
    ∷ operates (registers (only_of 9) all_clear) (command_of 0x0A 0x02) (answers 0x02) (registers (only_of 9) all_clear)
    ∷ operates (registers (only_of 9) all_clear) (command_of 0x09 0x03) (answers 0x02) (registers (only_of 9) all_clear)
    ∷ operates (registers (only_of 9) all_clear) (0x02 ∷ 0x18 ∷ []) (commands.refuses 7) (registers (only_of 9) all_clear)
    ∷ operates (registers (only_of 9) all_clear) (0x02 ∷ 0x18 ∷ 0x00 ∷ []) (commands.refuses 3) (registers (only_of 9) all_clear)
    -- the answers; the counts 258, -1 and the least; the positions 0, 100 and -1
    ∷ answered Ack (0x01 ∷ [])
    ∷ answered Nak (0x02 ∷ [])
    ∷ answered Busy (0x03 ∷ [])
    ∷ answered Syn (0x04 ∷ [])
    ∷ answered (Count (pos 258)) (0x1C ∷ 0x02 ∷ 0x01 ∷ 0x00 ∷ 0x00 ∷ [])
    ∷ answered (Count (negsuc 0)) (0x1C ∷ 0xFF ∷ 0xFF ∷ 0xFF ∷ 0xFF ∷ [])
    ∷ answered (Count (negsuc 0x7FFF_FFFF)) (0x1C ∷ 0x00 ∷ 0x00 ∷ 0x00 ∷ 0x80 ∷ [])
    ∷ answered (Position (pos 0)) (0x1D ∷ 0x00 ∷ [])
    ∷ answered (Position (pos 100)) (0x1D ∷ 0x64 ∷ [])
    ∷ answered (Position (negsuc 0)) (0x1D ∷ 0xFF ∷ [])
    -- no byte; an unknown kind; an ack, a count and a position of another length; the positions 101 and -2
    ∷ no_read [] 7
    ∷ no_read (0x05 ∷ 0x01 ∷ []) 3
    ∷ no_read (0x01 ∷ 0x01 ∷ []) 7
    ∷ no_read (0x1C ∷ 0x02 ∷ 0x01 ∷ 0x00 ∷ []) 7
    ∷ no_read (0x1D ∷ 0x65 ∷ 0x00 ∷ []) 7
    ∷ no_read (0x1D ∷ 0x65 ∷ []) 10
    ∷ no_read (0x1D ∷ 0xFE ∷ []) 10
    ∷ no_answer (Position (pos 101)) 0 10
    ∷ no_answer (Position (negsuc 1)) 2 10
    ∷ no_answer (Position (pos 100)) 1 11
    ∷ no_answer (Count (pos 0)) 4 11
    ∷ no_answer Ack 0 11
    ∷ []
