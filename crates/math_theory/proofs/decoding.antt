pub mod Decoding
pub mod CarriedDecoding
