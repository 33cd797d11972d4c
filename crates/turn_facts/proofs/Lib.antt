pub mod Counts
pub mod Notes
pub mod Places
pub mod Prefixes
pub mod Strangers
pub mod Sums
pub mod Totals
