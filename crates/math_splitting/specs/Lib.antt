pub mod DataWords
pub mod Shards
pub mod Strips
pub mod ShardRows
pub mod ShardEncoding
pub mod ShardEncodingLaws
