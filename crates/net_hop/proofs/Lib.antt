pub mod Tables
pub mod Places
pub mod Hops
pub mod Lent
pub mod Ways
