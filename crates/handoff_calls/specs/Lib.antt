pub mod Seats
pub mod Turns
pub mod Handoffs
pub mod Facts
