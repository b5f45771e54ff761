pub use Rattle.math_base.specs.Samples as Samples
pub mod MatrixLends
pub mod MatrixEncoding
pub mod MatrixEncodingLaws
pub mod PolynomialRows
pub mod Evaluations
pub mod MatrixPlaces
pub mod MatrixItems
pub mod AddedWork
pub mod DomainTrees
pub mod RecoveredRows
pub mod RecoveredValues
pub mod CorrectedRows
pub mod NarrowedRows
