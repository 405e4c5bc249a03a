pub mod Telegrams
pub mod Safety
