pub mod Send
pub mod Private
