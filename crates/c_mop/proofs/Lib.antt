pub mod Replies
pub mod Bounds
