pub mod Choice
pub mod Tests
pub mod Places
pub mod Writing
pub mod Filling
pub mod Words
