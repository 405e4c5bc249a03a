pub mod Casts
pub mod Inverse
