pub mod Analysing
pub mod Counting
pub mod Planned
mod Excluding
