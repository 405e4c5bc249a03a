pub mod Send
pub mod Bounds
pub mod Kept
pub mod Private
