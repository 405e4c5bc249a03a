pub mod Lines
pub mod Reporting
pub mod Telling
pub mod Journeys
