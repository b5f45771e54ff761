pub mod Unpacking
pub mod WordShards
pub mod Weights
pub mod Fitting
pub mod PackedWords
pub mod Cosets
pub mod Joining
pub mod Correcting
