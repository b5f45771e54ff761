pub mod RingLaws
pub mod Normal
pub mod PowerLaws
pub mod WeightedSumLaws
pub mod CongruenceLaws
pub mod ResidueLaws
