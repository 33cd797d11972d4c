pub mod Names
pub mod Notes
pub mod Vaults
pub mod Codes
pub mod Stores
pub mod Under
