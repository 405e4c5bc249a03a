pub mod Feeding
pub mod RoundTrip
pub mod Events
