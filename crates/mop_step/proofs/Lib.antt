pub mod Bodies
pub mod Stores
pub mod Stations
pub mod Cases
pub mod Steps
pub mod Answers
pub mod Rooms
pub mod Safety
