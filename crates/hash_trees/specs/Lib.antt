pub mod Trees
pub mod TreeLevels
pub mod Binding
pub mod Files
pub mod Descents
pub mod Steps
pub mod TreePairs
