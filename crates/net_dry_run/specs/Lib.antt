pub mod DryRun
pub mod Private
