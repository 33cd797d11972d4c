pub mod Knowledge
pub mod Rule
pub mod Seats
pub mod Tells
