pub mod Pieces
pub mod Counting
pub mod Fields
pub mod Keeping
