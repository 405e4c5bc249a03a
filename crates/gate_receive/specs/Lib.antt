pub mod Receive
pub mod Private
