pub mod Walking
pub mod Turning
pub mod Gathering
pub mod Closing
