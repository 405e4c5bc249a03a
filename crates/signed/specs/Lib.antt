pub mod Signed
pub mod Inverse
pub mod Private
