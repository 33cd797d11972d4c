pub mod Bits
pub mod Filters
pub mod Hits
pub mod Orders
pub mod Schemas
pub mod Spelling
