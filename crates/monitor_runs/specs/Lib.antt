pub mod Acts
pub mod Stays
pub mod Refused
pub mod BlockInRam
pub mod Moves
pub mod WhoRuns
pub mod Unread
pub mod Runs
