-- The table of worked cases of the sending half, computed.
-- Assumes nothing.
use mathlib.Core.Path.{refl}
use Rattle.base.specs.Places.{placed}
use Rattle.base.specs.Filling.{fitted}
use Rattle.link_frame.specs.Frame.{sent, doubled, xor_over, checked, check_byte, frame_of}
use Rattle.link_receive.specs.Receive.{against, after_store, byte_of, data_of, event_of, inside_of, no_room, receive_of, rest_of, store_of, timer_of, waiting_of}
use Rattle.link_send.specs.Send.{part_bytes, bytes_of, connection_fails, block_fails, opening_byte, awaiting_byte, after_half, fresh_of, opening_of, awaiting_of, receiving_of, turn_of, bad_limit, misset, send_of}
use Rattle.link_send_laws.specs.Runs.{until_yield, openings, blocks}
use Rattle.worked_cases.specs.Holding.{AllHold, ◌also◌, none}
use Rattle.worked_cases.specs.SendCases.{playing, ends_later, SendHolds, send_cases}

pub send_cases_lem : AllHold SendHolds send_cases
unfolding placed fitted sent doubled xor_over checked check_byte frame_of against after_store byte_of data_of event_of inside_of no_room receive_of rest_of store_of timer_of waiting_of part_bytes bytes_of connection_fails block_fails opening_byte awaiting_byte after_half fresh_of opening_of awaiting_of receiving_of turn_of bad_limit misset send_of until_yield openings blocks playing ends_later
send_cases_lem =
    refl also refl also refl also refl also refl also refl also refl also refl
    also refl also refl also refl also refl also refl also refl also refl also refl
    also refl also refl also refl also refl also refl also refl also refl also refl
    also refl also refl also refl also refl also refl also refl also refl also refl
    also refl also refl also refl also refl also refl also refl also refl also refl
    also none
