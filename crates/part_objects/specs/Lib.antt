pub mod Spellings
pub mod Keeping
