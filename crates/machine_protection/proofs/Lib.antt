mod Protection
mod Scan
mod Selected
pub mod Alike
mod RegionWords
pub mod Powers
mod Writes
pub mod Configured
