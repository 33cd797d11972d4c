pub mod SegmentLaws
pub mod RowLaws
pub mod HomeLaws
pub mod KeptLaws
