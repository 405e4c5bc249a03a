pub mod Routes
pub mod Requests
pub mod Replies
