pub mod Station
pub mod Safety
