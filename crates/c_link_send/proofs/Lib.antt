pub mod States
pub mod Endings
pub mod Kept
pub mod Bounds
