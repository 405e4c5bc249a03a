pub mod Station
pub mod Centre
pub mod Bounds
