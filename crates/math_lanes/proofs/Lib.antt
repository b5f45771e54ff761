pub mod WordReductions
pub mod LaneLists
