pub mod BlockValues
pub mod ElementRing
pub mod ElementValues
pub mod SummedProducts
pub mod ColumnParts
