pub mod Choice
pub mod Places
pub mod Filling
pub mod Words
pub mod Private
