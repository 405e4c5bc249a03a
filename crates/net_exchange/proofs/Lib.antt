pub mod Requests
pub mod Replies
pub mod Rolls
pub mod Heard
pub mod Exchange
