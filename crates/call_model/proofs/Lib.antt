pub mod LookLogs
pub mod Rounds
pub mod Serving
