pub mod Refusals
pub mod Options
