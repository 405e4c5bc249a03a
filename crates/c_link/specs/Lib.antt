pub mod Link
pub mod Bounds
pub mod Private
