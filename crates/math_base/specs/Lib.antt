pub use Rattle.math_theory.specs.Laws as Laws
pub mod Members
pub mod Columns
pub mod Polynomials
pub mod Samples
pub mod Progressions
pub mod Quotients
