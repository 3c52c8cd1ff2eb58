pub mod Grouped
pub mod Bases
pub mod Making
pub mod Recorded
pub mod Walked
