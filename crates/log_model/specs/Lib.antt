pub mod Counts
pub mod Logs
pub mod Places
pub mod Scans
