pub mod Merges
pub mod KeptRows
