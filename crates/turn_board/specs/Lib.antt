pub mod Boards
pub mod Jobs
