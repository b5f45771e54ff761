pub mod RecordBytes
pub mod MadeRecords
pub mod BoundBlocks
pub mod Selected
pub mod Joined
pub mod OnlyBlocks
pub mod BlockWords
pub mod EnoughShards
