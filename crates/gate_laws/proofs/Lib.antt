pub mod Feeding
pub mod Written
pub mod Telegrams
pub mod Accepted
pub mod Events
pub mod Answers
pub mod Commands
