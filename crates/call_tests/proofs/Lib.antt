pub mod Openings
pub mod Seats
