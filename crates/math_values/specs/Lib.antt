pub mod Values
pub mod Products
pub mod Tables
pub mod ColumnSums
