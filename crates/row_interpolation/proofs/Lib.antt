pub mod IndexPoints
pub mod RisingIndices
pub mod Differences
pub mod WeightedSums
pub mod Transformed
