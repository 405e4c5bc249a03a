pub mod Writing
pub mod Tests
