pub mod Calls
pub mod Limits
pub mod Bound
pub mod Turns
pub mod Endings
pub mod Yields
pub mod Cable
