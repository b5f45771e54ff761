pub mod RootedRows
pub mod Shards
