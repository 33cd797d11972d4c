pub mod Counting
pub mod Weaving
pub mod Holding
pub mod Working
pub mod Telling
pub mod Blocking
pub mod Testing
