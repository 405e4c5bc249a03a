-- `state_at`: numbers that fit are narrowed without loss.
-- Assumes nothing.
use Rattle.c_gate.proofs.States.{fits_parts, byte_fits, word_fits}
use Rattle.c_gate.proofs.state_at.Goals as goal

pub overflow_cast-destination : goal.overflow_cast-destination
overflow_cast-destination c = byte_fits (fits_parts _ c.requires).destination

pub overflow_cast-source : goal.overflow_cast-source
overflow_cast-source c = byte_fits (fits_parts _ c.requires).source

pub overflow_cast-size : goal.overflow_cast-size
overflow_cast-size c = byte_fits (fits_parts _ c.requires).size

pub overflow_cast-check : goal.overflow_cast-check
overflow_cast-check c = word_fits (fits_parts _ c.requires).check

pub overflow_cast-high : goal.overflow_cast-high
overflow_cast-high c = byte_fits (fits_parts _ c.requires).high
