pub mod Reading
pub mod Fields
pub mod Deletes
pub mod Inserts
pub mod Lists
