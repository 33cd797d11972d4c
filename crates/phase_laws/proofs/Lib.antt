pub mod InPhase
pub mod Facts
pub mod Meeting
pub mod Begun
pub mod Going
pub mod Worked
