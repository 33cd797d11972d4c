pub mod Endings
pub mod Paces
pub mod Servings
