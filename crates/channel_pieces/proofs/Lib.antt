pub mod DeathLaws
pub mod MarkLaws
pub mod PieceLaws
pub mod ListLaws
pub mod HomeLaws
pub mod CountLaws
pub mod KeepLaws
