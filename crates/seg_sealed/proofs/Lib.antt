pub mod ColumnSteps
pub mod ColumnLaws
pub mod LogLaws
pub mod WordLaws
pub mod MarkLaws
pub mod SealLaws
pub mod ChainLaws
pub mod RunLaws
