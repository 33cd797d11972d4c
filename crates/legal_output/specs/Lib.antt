pub mod Examples
pub mod Legal
pub mod Lines
pub mod Members
pub mod Outputs
pub mod Phases
pub mod Printed
pub mod Runs
