pub mod Lookups
pub mod Searches
