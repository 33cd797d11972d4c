pub mod Meets
pub mod Callers
pub mod Jobs
pub mod Phases
