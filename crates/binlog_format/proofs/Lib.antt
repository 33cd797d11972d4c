pub mod ReadLoop
pub mod FieldLaws
pub mod DeleteLaws
pub mod WriteLoop
pub mod InsertLaws
pub mod ListReading
pub mod ListLaws
