pub mod TakesSteps
pub mod Counts
pub mod TestBoard
pub mod Lines
pub mod Answers
pub mod Tested
pub mod Laws
