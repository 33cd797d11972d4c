pub mod Phases
pub mod Engines
pub mod Outputs
pub mod Outcomes
pub mod Steps
