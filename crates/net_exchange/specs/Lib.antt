pub mod ReadBack
pub mod Exchange
