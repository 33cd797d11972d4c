pub mod Client
pub mod Tickets
pub mod Plays
pub mod Passes
