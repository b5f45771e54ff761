pub mod FingerprintSteps
pub mod FourWords
pub mod KeyPairs
pub mod SeenChanges
pub mod WordBlocks
