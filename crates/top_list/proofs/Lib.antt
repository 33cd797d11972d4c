pub mod Fills
pub mod Laws
pub mod Moves
