pub mod Rests
pub mod Phases
pub mod Meets
