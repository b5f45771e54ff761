pub mod Records
pub mod Commitments
pub mod Joining
