pub mod Block
pub mod Zipper
