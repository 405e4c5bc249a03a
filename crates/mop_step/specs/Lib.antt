pub mod Body
pub mod Step
pub mod Safety
pub mod Private
