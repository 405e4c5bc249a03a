pub mod Bounds
pub mod Rows
pub mod Effects
