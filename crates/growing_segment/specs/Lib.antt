pub mod Buckets
pub mod KeyMaps
pub mod Kept
pub mod Nodes
pub mod Slots
pub mod Tails
pub mod Trees
