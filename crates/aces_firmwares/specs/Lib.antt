pub mod Firmwares
pub mod Counts
pub mod Answers
pub mod PlanAnswer
