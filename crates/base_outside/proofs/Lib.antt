mod Entries
mod Appends
mod Filling
mod Refusals
pub mod Prefixes
pub mod Paths
