pub mod Turning
pub mod Counting
pub mod Homes
pub mod Own
pub mod Handing
pub mod Telling
pub mod Moving
