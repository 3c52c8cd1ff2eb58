pub mod Values
pub mod Spots
pub mod PlaceLines
pub mod Runs
pub mod Halts
pub mod Answers
