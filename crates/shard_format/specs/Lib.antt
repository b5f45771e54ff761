pub mod Formats
pub mod Headers
pub mod HeaderLaws
pub mod Indices
pub mod Records
pub mod Rows
pub mod Splits
