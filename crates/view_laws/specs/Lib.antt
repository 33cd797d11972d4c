pub mod Found
pub mod Wholes
pub mod Examples
