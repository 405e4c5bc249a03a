pub mod Journeys
pub mod Series
pub mod Isolated
