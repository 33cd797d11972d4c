pub mod Lists
pub mod Coming
pub mod Taking
pub mod Settling
pub mod Keeping
