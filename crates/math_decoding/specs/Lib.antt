pub use Rattle.math_base.specs.Members as Members
pub mod Polynomials
pub mod Divisions
pub mod Decodings
pub mod Remainders
