pub use Rattle.math_base.specs.Members as Members
pub use Rattle.math_poly.specs.PolynomialCounts as PolynomialCounts
pub use Rattle.math_poly.specs.PolynomialLaws as PolynomialLaws
pub use Rattle.math_poly.specs.Combinations as Combinations
pub mod Interpolators
pub mod Synthetics
pub mod SyntheticTerms
pub mod SyntheticLaws
pub mod SyntheticGenerators
pub mod SyntheticValues
pub mod RootInterpolators
