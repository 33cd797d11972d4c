pub mod Outcomes
pub mod Notes
pub mod Kept
pub mod Fields
