pub mod Sums
pub mod Lives
pub mod Counted
pub mod Kept
