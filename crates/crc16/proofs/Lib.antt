pub mod Check
pub mod CcittCheck
