pub mod ModulusLaws
pub mod Quotients
pub mod ByteSums
pub mod Hashes
pub mod RootsModulo
pub mod QuotientLaws
