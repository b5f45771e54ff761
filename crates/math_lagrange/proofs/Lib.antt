pub mod RootWeightSteps
pub mod RootWeightCases
