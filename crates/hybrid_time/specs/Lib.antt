pub mod Levels
pub mod Times
