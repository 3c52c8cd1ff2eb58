pub mod Logs
pub mod Searching
