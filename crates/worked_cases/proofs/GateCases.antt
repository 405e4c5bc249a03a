-- The table of worked cases of the gate bus, computed.
-- Assumes nothing.
use mathlib.Core.Path.{refl}
use Rattle.base.specs.Places.{placed}
use Rattle.base.specs.Filling.{fitted}
use Rattle.base.specs.Words.{bytes_of}
use Rattle.crc16.specs.Check.{run_over}
use Rattle.crc16.specs.Ccitt.{ccitt_bit, ccitt_byte, ccitt_over}
use Rattle.signed.specs.Signed.{bits_of, signed_of, four_bytes, of_four}
use Rattle.gate_telegram.specs.Telegram.{slave_token, checked, check_of, telegram_of, bad_addresses, telegram_writing}
use Rattle.gate_receive.specs.Receive.{rest_of, destination_of, source_of, length_of, data_of, accepted_of, judged_of, others_length_of, dropping_of, byte_of, event_of, overcounts, receive_of}
use Rattle.gate_commands.specs.Commands.{function_of, carried_out, functioning, commanding, operating}
use Rattle.gate_answers.specs.Answers.{is_position, answer_bytes, is_answer, answer_writing, position_at, kind_reading, answer_reading}
use Rattle.gate_laws.specs.Feeding.{feed}
use Rattle.worked_cases.specs.Holding.{AllHold, ◌also◌, none}
use Rattle.worked_cases.specs.GateCases.{GateHolds, gate_cases}

pub gate_cases_lem : AllHold GateHolds gate_cases
unfolding placed fitted bytes_of run_over ccitt_bit ccitt_byte ccitt_over bits_of signed_of four_bytes of_four slave_token checked check_of telegram_of bad_addresses telegram_writing rest_of destination_of source_of length_of data_of accepted_of judged_of others_length_of dropping_of byte_of event_of overcounts receive_of function_of carried_out functioning commanding operating is_position answer_bytes is_answer answer_writing position_at kind_reading answer_reading feed
gate_cases_lem =
    refl also refl also refl also refl also refl also refl also refl also refl
    also refl also refl also refl also refl also refl also refl also refl also refl
    also refl also refl also refl also refl also refl also refl also refl also refl
    also refl also refl also refl also refl also refl also refl also refl also refl
    also refl also refl also refl also refl also refl also refl also refl also refl
    also refl also refl also refl also refl also refl also refl also refl also refl
    also refl also refl also refl also refl also refl also refl also refl also refl
    also refl also refl also refl also refl also refl also refl also refl also refl
    also refl also refl also refl also refl also refl also refl
    also none
