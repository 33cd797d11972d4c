pub mod Crossing
mod Ticking
mod Empty
