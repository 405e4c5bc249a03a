pub mod Check
pub mod Ccitt
