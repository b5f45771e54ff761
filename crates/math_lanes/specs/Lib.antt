pub mod Words
pub mod Elements
