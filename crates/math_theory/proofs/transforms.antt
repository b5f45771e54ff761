pub mod EvenOddItems
pub mod BitOrder
pub mod TransformValues
pub mod TransformInverse
