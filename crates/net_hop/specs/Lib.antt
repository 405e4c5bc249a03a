pub mod Tables
pub mod Hop
pub mod Private
