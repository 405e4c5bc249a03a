pub mod Reading
pub mod ReadBack
