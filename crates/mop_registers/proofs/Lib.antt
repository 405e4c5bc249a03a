pub mod Tests
pub mod Places
pub mod Columns
pub mod Runs
pub mod Values
