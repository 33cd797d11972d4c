pub mod Headers
pub mod Json
pub mod Members
pub mod Parts
pub mod Requests
