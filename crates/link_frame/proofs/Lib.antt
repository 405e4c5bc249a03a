pub mod Xor
pub mod Check
pub mod Doubling
pub mod Framing
