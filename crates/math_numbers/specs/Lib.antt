pub mod PowersModulo
pub mod Pigeonhole
pub mod Primes
pub mod Goldilocks
pub mod Congruence
pub mod Residues
pub mod Bits
