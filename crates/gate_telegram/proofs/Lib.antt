pub mod Telegrams
pub mod Addresses
pub mod Cases
