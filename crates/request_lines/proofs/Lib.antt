pub mod ColumnValues
pub mod Keys
pub mod Lists
pub mod Tables
