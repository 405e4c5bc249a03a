pub mod Bus
pub mod Commands
pub mod Answers
pub mod Bounds
pub mod Kept
