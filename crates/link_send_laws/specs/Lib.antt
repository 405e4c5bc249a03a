pub mod Runs
pub mod Endings
pub mod Yields
pub mod Cable
