pub mod ControlBytes
pub mod Frame
pub mod Private
