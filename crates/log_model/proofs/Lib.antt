pub mod LogLaws
pub mod LogOrder
pub mod RowMaps
pub mod Counts
pub mod Applies
pub mod Reached
pub mod Dimensions
pub mod Examples
