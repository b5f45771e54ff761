pub mod Written
pub mod RowValues
pub mod Weights
pub mod WeightRows
pub mod Sums
pub mod Transforms
pub mod Interpolations
pub mod Rooms
