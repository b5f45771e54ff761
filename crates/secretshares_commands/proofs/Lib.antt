pub mod NamedFaults
