pub mod States
pub mod Bits
pub mod Answers
pub mod Kept
pub mod Bounds
