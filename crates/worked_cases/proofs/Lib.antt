pub mod IsolationCases
pub mod SendCases
pub mod GateCases
pub mod Cases
