pub mod Bytes
pub mod Feeding
pub mod Telegrams
pub mod Events
pub mod Commands
pub mod Answers
