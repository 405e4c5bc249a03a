pub mod Answer
pub mod Event
