pub mod EqualElements
pub mod Fingerprints
pub mod FourWords
pub mod KeyPairs
