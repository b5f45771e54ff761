pub mod Numerals
pub mod PrintedNumbers
pub mod Lines
pub mod Evaluations
pub mod Recoveries
pub mod Answers
pub mod Commands
