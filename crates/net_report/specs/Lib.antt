pub mod Text
pub mod Report
pub mod Private
