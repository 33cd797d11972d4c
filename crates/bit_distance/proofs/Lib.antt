pub mod BitCounts
