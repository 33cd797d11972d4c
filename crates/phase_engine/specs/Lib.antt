pub mod Outputs
pub mod Accounts
pub mod Steps
pub mod Standing
