pub mod Classes
pub mod ClassesOfLists
pub mod RingUpToSame
pub mod PlainEquality
pub mod CarriedRingLaws
pub mod FractionLaws
pub mod ClassesOfProducts
