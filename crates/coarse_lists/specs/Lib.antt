pub mod Collections
pub mod Schemas
