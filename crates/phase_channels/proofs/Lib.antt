pub mod Lasting
pub mod Running
pub mod Meeting
pub mod Beginning
pub mod Testing
