pub mod Legs
pub mod Outputs
pub mod DryRuns
pub mod Journeys
