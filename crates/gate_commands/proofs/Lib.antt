pub mod Cases
pub mod Safety
