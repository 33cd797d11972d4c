pub mod Fields
pub mod Depths
pub mod Floats
