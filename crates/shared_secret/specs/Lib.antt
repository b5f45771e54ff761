pub mod Shares
pub mod ShareLaws
pub mod CorrectedShares
pub mod Weights
pub mod Explanations
