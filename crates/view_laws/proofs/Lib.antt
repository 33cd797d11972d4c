pub mod Members
pub mod Seen
pub mod Values
pub mod Shows
pub mod Unions
pub mod Wholes
pub mod Worked
