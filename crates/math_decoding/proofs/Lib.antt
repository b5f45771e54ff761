pub mod CoefficientLists
pub mod SubtractedMultiples
pub mod DivisionSteps
pub mod InterpolationSteps
pub mod RemainderSteps
pub mod DecodingSteps
pub mod WrongPlaces
pub mod AlikeValues
