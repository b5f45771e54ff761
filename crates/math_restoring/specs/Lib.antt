pub mod CosetDivisions
pub mod Restored
pub mod Restorers
