pub mod Commands
pub mod Safety
