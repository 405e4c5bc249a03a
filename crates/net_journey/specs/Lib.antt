pub mod Net
pub mod Journey
pub mod Terms
pub mod Demand3
pub mod Transmissions
pub mod Bounded
