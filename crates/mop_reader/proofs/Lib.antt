pub mod Marks
pub mod Sizes
pub mod Readers
pub mod Steps
pub mod ReadBack
