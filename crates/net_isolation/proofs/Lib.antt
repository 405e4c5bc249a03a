pub mod Ring
pub mod Registers
pub mod Journeys
pub mod Series
pub mod Isolated
pub mod Promise
