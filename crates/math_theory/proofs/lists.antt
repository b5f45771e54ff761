pub mod ListMaps
pub mod Apart
