pub mod BitLists
pub mod Least
pub mod PackedBits
pub mod Rising
pub mod SpelledBits
