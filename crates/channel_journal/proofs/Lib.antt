pub mod IndexNotes
pub mod LayoutNotes
pub mod KeptLaws
pub mod ListLaws
pub mod BelowLaws
