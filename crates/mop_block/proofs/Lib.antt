pub mod Rolls
pub mod Counts
pub mod Stations
pub mod Ends
pub mod Zipper
pub mod Seen
pub mod Scan
pub mod Pass
