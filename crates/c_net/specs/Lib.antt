pub mod Net
pub mod Bounds
